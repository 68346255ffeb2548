use Rattle.std.proofs.Common.{refl}
use Rattle.host_keys.proofs.examples.answers.Goals as goal

pub returns : goal.returns
returns c = (refl, refl, refl, refl, refl, refl, refl, refl, refl, refl)
