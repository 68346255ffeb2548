use Rattle.sshkey_base.proofs.Lawful.{array_lawful}
use Rattle.sshkey_krl.proofs.section.Sha1DigestItem.lawful.Goals as goal

pub returns-clause-lawful : goal.returns-clause-lawful
returns-clause-lawful c = array_lawful 20
