use Rattle.sshkey_krl.proofs.Wholeness.{any_whole}
use Rattle.sshkey_krl.proofs.revocations.RefSliceRevocations.whole.Goals as goal

pub returns : goal.returns
returns g c = λ all. any_whole g.R.Revocations.revokes_key g.R.Revocations.revokes c.whole.ensures all.now
