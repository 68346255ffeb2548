use Rattle.std.proofs.Common.{refl}
use Rattle.sshkey_userauth.proofs.examples.request_parts.Goals as goal

pub returns : goal.returns
returns c = (refl, refl, refl, refl, refl, refl, refl, refl)
