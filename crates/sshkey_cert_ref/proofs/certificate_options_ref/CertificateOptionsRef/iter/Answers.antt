use Rattle.sshkey_cert_ref.proofs.OptionLists.{options_spelled}
use Rattle.sshkey_cert_ref.proofs.certificate_options_ref.CertificateOptionsRef.iter.Goals as goal

pub returns-clause-rising : goal.returns-clause-rising
returns-clause-rising c = rw c.new.ensures (options_spelled c.args.self.now.bytes.now c.args.self.now.form).is.is
