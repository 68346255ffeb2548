use Rattle.std.proofs.Common.{refl}
use Rattle.sshkey_c.proofs.examples.permitted.Goals as goal

pub returns : goal.returns
returns c = (refl, refl, refl, refl, refl)
