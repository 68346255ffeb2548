use Rattle.std.proofs.Common.{Option, List, ℕ, subst}
use Rattle.std.specs.Prelude.{IfOk, option_map, string_bytes}
use Rattle.sshkey_entries.specs.Answers.{Tells}
use Rattle.sshkey_authorized_keys.specs.Options.{key_option_of}
use Rattle.sshkey_authorized_keys.proofs.openssh_options.with_option.Goals as goal

pub returns : goal.returns
returns g c =
    let m = g.T.AddOptions in
    let s = m.means c.args.said in
    let o = key_option_of c.args.option.now in
    let named = subst (λ (n : List ℕ). IfOk c.with.result (Tells m.means (m.Adds n (option_map string_bytes c.in-Ok.value) s) (m.MayBe n (option_map string_bytes c.in-Ok.value)))) c.name.ensures c.with.ensures in
    subst (λ (v : Option (List ℕ)). IfOk c.with.result (Tells m.means (m.Adds o.name v s) (m.MayBe o.name v))) c.in-Ok.ensures.value named
