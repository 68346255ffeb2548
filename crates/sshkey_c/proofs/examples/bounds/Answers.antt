use Rattle.std.proofs.Common.{refl}
use Rattle.sshkey_c.proofs.examples.bounds.Goals as goal

pub returns : goal.returns
returns c = (refl, refl, refl, refl, refl)
