use Rattle.std.proofs.Common.{refl}
use Rattle.sshkey_userauth.proofs.examples.name_forms.Goals as goal

pub returns : goal.returns
returns c = (refl, refl, refl, refl, refl, refl, refl)
