use Rattle.std.proofs.Common.{refl}
use Rattle.sshkey_krl.proofs.examples.zeros.Goals as goal

pub returns : goal.returns
returns c = (refl, refl, refl, refl, refl)
