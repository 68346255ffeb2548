use Rattle.sshkey_krl.proofs.Krls.{spelled}
use Rattle.sshkey_krl.proofs.krl.Krl.as_bytes.Goals as goal

pub returns-clause-spelled : goal.returns-clause-spelled
returns-clause-spelled c = rw c.as_slice.ensures.value (spelled c.args.self.now.bytes.items c.args.self.now.form)
