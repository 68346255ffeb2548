use Rattle.std.proofs.Common.{refl}
use Rattle.sshkey_model.specs.Parts.{flat}
use Rattle.sshkey_krl.proofs.examples.keys_written.Goals as goal

pub returns : goal.returns
unfolding flat
returns c = (refl, refl)
