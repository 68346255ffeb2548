use Rattle.sshkey_cert_ref.proofs.TextSteps.{texts_spelled}
use Rattle.sshkey_cert_ref.proofs.principals_ref.PrincipalsRef.as_bytes.Goals as goal

pub returns-clause-spelled : goal.returns-clause-spelled
returns-clause-spelled c = texts_spelled c.args.self.now.bytes.now c.args.self.now.form
