use Rattle.std.proofs.Common.{Some, None, inl, refl}
use Rattle.std.proofs.lemmas.Bool.Decides.{Decides-eqb}
use Rattle.std.proofs.lemmas.Slice.Eq.{strip_prefix_is}
use Rattle.std.specs.Prelude.{codes}
use Rattle.sshkey_base64.proofs.ArmourBodies.{either_end}
use Rattle.sshkey_base64.proofs.armour.after_line_end.Goals as goal

pub returns-in-Some : goal.returns-in-Some
returns-in-Some c = (codes "\n", inl refl, strip_prefix_is Decides-eqb c.args.text.now (codes "\n") (Some c.in-Some.rest) c.in-Some.ensures.cases)

pub returns-in-None : goal.returns-in-None
returns-in-None c = either_end c.args.text.now c.strip_prefix-in-None.result (strip_prefix_is Decides-eqb c.args.text.now (codes "\n") None c.in-None.ensures.cases) (strip_prefix_is Decides-eqb c.args.text.now (codes "\r\n") c.strip_prefix-in-None.result c.strip_prefix-in-None.ensures.cases)
