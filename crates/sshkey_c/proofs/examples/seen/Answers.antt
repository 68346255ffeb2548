use Rattle.std.proofs.Common.{refl}
use Rattle.sshkey_c.proofs.examples.seen.Goals as goal

pub returns : goal.returns
returns c = λ s. (refl, refl, refl, refl, refl, refl, refl)
