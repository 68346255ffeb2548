use Rattle.std.proofs.Common.{refl}
use Rattle.sshkey_model.specs.Parts.{flat}
use Rattle.sshkey_c.proofs.examples.placed.Goals as goal

pub returns : goal.returns
unfolding flat
returns c = (refl, refl, refl, refl, refl, refl)
