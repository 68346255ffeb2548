use Rattle.std.specs.Prelude.{codes}
use Rattle.sshkey_model.specs.Parts.{flat}
use Rattle.sshkey_c.proofs.Grants.{laid}
use Rattle.sshkey_c.specs.Examples.{granted}
use Rattle.sshkey_c.proofs.examples.laid_out.Goals as goal

pub returns : goal.returns
unfolding flat
returns c = λ g a is named placed. laid g a placed granted (codes "id") is named
