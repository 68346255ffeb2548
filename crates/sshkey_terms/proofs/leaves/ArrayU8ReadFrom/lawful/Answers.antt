use Rattle.sshkey_base.proofs.Lawful.{array_lawful}
use Rattle.sshkey_terms.proofs.leaves.ArrayU8ReadFrom.lawful.Goals as goal

pub returns : goal.returns
returns g c = array_lawful g.row.N
