use Rattle.sshkey_terms.proofs.Lawful.{counted_lawful}
use Rattle.sshkey_terms.proofs.counted.read.CountedDecode.lawful.Goals as goal

pub returns : goal.returns
returns g c = counted_lawful c.lawful.ensures
