use Rattle.std.proofs.Common.{ℕ, take, drop, ap, ◌∙◌}
use Rattle.sshkey_base64.proofs.window.Window.bytes.Goals as goal

pub returns : goal.returns
returns c =
    let w = c.args.self.now in
    w.part ∙ ap (λ (n : ℕ). take n (drop w.start w.history.bytes)) w.size
