use Rattle.sshkey_pair_kinds.proofs.Lawful.{scalar_lawful}
use Rattle.sshkey_pair_kinds.proofs.ecdsa.EcdsaPrivateKeyDecode.lawful.Goals as goal

pub returns : goal.returns
returns g c = scalar_lawful g.row.SIZE
