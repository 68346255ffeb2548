use Rattle.std.proofs.Common.{refl}
use Rattle.std.specs.Int.Count.{count_leading_zeros}
use Rattle.host_keys.proofs.examples.authorities.Goals as goal

pub returns : goal.returns
unfolding count_leading_zeros
returns c = (refl, refl, refl, refl, refl, refl, refl, refl)
