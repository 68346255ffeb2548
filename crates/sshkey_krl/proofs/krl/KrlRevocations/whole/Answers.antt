use Rattle.sshkey_krl.specs.Writing.{krl_of}
use Rattle.sshkey_krl.proofs.Wholeness.{list_whole}
use Rattle.sshkey_krl.proofs.krl.KrlRevocations.whole.Goals as goal

pub returns : goal.returns
returns c = λ krl. list_whole (krl_of krl)
