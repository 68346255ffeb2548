use Rattle.std.proofs.Common.{refl}
use Rattle.openssh_limits.proofs.examples.padded_signatures.Goals as goal

pub returns : goal.returns
returns c = (refl, refl, refl, refl, refl, refl, refl, refl, refl, refl)
