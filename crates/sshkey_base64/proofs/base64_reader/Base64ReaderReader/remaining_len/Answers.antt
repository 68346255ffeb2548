use Rattle.std.proofs.Common.{sym, ap, ◌∙◌, ℕ, ◌+◌, ◌-◌, arith}
use Rattle.sshkey_base64.specs.Words64.{announced}
use Rattle.sshkey_base64.proofs.WordSources.{told_is, range_length}
use Rattle.sshkey_base64.proofs.base64_reader.Base64ReaderReader.remaining_len.Goals as goal

pub returns : goal.returns
returns c =
    let r = c.args.self.now in
    ap (λ (n : ℕ). r.to - r.from + n) c.announced.ensures ∙ ap (λ (n : ℕ). n + announced r.text.now) (sym (range_length r.held r.from r.to r.within (omega (arith, r.room)))) ∙ sym (told_is _ r.text.now r.characters r.groups)
