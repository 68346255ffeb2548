use Rattle.sshkey_krl.proofs.Krls.{spelled}
use Rattle.sshkey_krl.proofs.krl_ref.KrlRef.as_bytes.Goals as goal

pub returns-clause-spelled : goal.returns-clause-spelled
returns-clause-spelled c = spelled c.args.self.now.bytes.now c.args.self.now.form
