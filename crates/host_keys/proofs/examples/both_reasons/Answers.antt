use Rattle.std.proofs.Common.{refl}
use Rattle.host_keys.proofs.examples.both_reasons.Goals as goal

pub returns : goal.returns
returns c = (refl, refl, refl, refl, refl, refl, refl, refl, refl, refl, refl)
