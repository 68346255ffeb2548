use Rattle.std.proofs.Common.{refl}
use Rattle.std.specs.Int.Count.{count_leading_zeros}
use Rattle.openssh_limits.proofs.examples.bit_lengths.Goals as goal

pub returns : goal.returns
unfolding count_leading_zeros
returns c = (refl, refl, refl, refl, refl, refl, refl, refl, refl)
