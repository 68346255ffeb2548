use Rattle.std.proofs.Common.{refl}
use Rattle.sshkey_model.specs.Names.{named}
use Rattle.sshkey_revoked_keys.proofs.examples.certificate_names.Goals as goal

pub returns : goal.returns
unfolding named
returns c = (refl, refl, refl, refl, refl, refl, refl)
