use Rattle.std.proofs.Common.{refl}
use Rattle.user_keys.specs.Principals.{after_last}
use Rattle.user_keys.proofs.examples.breaks.Goals as goal

pub returns : goal.returns
unfolding after_last
returns c = (refl, refl, refl, refl, refl, refl, refl, refl, refl, refl)
