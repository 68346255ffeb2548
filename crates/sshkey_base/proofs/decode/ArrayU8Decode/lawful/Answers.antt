use Rattle.sshkey_base.proofs.Lawful.{array_lawful}
use Rattle.sshkey_base.proofs.decode.ArrayU8Decode.lawful.Goals as goal

pub returns : goal.returns
returns g c = array_lawful g.row.N
