use Rattle.sshkey_krl.proofs.Wholeness.{read_whole}
use Rattle.sshkey_krl.proofs.revocations.ResultRevocations.whole.Goals as goal

pub returns : goal.returns
returns g c = read_whole g.R.Revocations.revokes_key g.R.Revocations.revokes c.whole.ensures
