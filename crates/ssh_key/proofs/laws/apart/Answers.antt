use Rattle.sshkey_model.specs.Laws.{AreApart}
use Rattle.ssh_key.proofs.laws.apart.Goals as goal

pub returns : goal.returns
unfolding AreApart
returns c = c.apart.ensures
