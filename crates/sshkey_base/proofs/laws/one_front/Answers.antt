use Rattle.sshkey_base.proofs.Accepted.{one_beginning}
use Rattle.sshkey_base.proofs.laws.one_front.Goals as goal

pub returns : goal.returns
returns g c = one_beginning g.T.Decode.format c.lawful.ensures
