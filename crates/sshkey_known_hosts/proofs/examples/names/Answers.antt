use Rattle.std.proofs.Common.{refl}
use Rattle.std.specs.Fmt.{digits}
use Rattle.sshkey_known_hosts.proofs.examples.names.Goals as goal

pub returns : goal.returns
unfolding digits
returns c = (refl, refl, refl)
