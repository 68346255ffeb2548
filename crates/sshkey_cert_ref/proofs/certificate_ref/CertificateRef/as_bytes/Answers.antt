use Rattle.sshkey_cert_ref.proofs.Certificates.{spells}
use Rattle.sshkey_cert_ref.proofs.certificate_ref.CertificateRef.as_bytes.Goals as goal

pub returns-clause-spelled : goal.returns-clause-spelled
returns-clause-spelled c = spells c.args.self.now.bytes.now c.args.self.now.form
