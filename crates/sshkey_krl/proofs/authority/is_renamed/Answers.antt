use Rattle.std.proofs.Common.{sym, ◌∙◌}
use Rattle.std.proofs.lemmas.List.{take_rest}
use Rattle.sshkey_krl.proofs.Authorities.{same_name}
use Rattle.sshkey_krl.proofs.authority.is_renamed.Goals as goal

pub returns-then-eq : goal.returns-then-eq
returns-then-eq c = λ w. same_name c.args.bytes.now c.args.hashed.now _ (sym c.eq.ensures ∙ c.if-eq.true) (rw (take_rest c.args.bytes.now 11, take_rest c.args.hashed.now 16) at c.eq-then-eq.ensures)
