use Rattle.std.proofs.Common.{refl}
use Rattle.sshkey_known_hosts.proofs.examples.markers.Goals as goal

pub returns : goal.returns
returns c = (refl, refl, refl, refl, refl, refl, refl, refl, refl, refl, refl, refl, refl, refl)
