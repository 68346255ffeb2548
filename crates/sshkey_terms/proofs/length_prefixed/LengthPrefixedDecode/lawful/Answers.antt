use Rattle.sshkey_terms.proofs.Lawful.{boxed_lawful}
use Rattle.sshkey_terms.proofs.length_prefixed.LengthPrefixedDecode.lawful.Goals as goal

pub returns : goal.returns
returns g c = boxed_lawful c.lawful.ensures
