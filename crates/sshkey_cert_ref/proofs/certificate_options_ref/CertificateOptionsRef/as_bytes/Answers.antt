use Rattle.sshkey_cert_ref.proofs.OptionLists.{options_spelled}
use Rattle.sshkey_cert_ref.proofs.certificate_options_ref.CertificateOptionsRef.as_bytes.Goals as goal

pub returns-clause-spelled : goal.returns-clause-spelled
returns-clause-spelled c = options_spelled c.args.self.now.bytes.now c.args.self.now.form
