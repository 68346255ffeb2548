use Rattle.sshkey_base.specs.Causes.{cause}
use Rattle.sshkey_base.proofs.Accepted.{spelled_whole}
use Rattle.sshkey_model.specs.Reading.{whole}
use Rattle.sshkey_model.specs.Certificates.{certificate_format}
use Rattle.sshkey_cert.specs.Certificates.{certificate_of}
use Rattle.sshkey_cert.proofs.Certificates.{certificate_grammar}
use Rattle.sshkey_cert_ref.specs.Certificates.{spelled_in}
use Rattle.sshkey_cert_ref.proofs.Answers.{given_whole}
use Rattle.sshkey_cert_ref.proofs.Certificates.{spells}
use Rattle.sshkey_cert_ref.proofs.certificate_ref.CertificateRef.to_certificate.Goals as goal

pub returns-clause-value : goal.returns-clause-value
returns-clause-value c =
    let b = c.args.self.now.bytes.now in
    (given_whole certificate_of cause (whole certificate_format.read) b (spelled_in b).0 c.from_bytes.result (spelled_whole certificate_grammar b (spelled_in b).0 (spells b c.args.self.now.form)) c.from_bytes.ensures.gives).0

pub returns-clause-memory : goal.returns-clause-memory
returns-clause-memory c =
    let b = c.args.self.now.bytes.now in
    (given_whole certificate_of cause (whole certificate_format.read) b (spelled_in b).0 c.from_bytes.result (spelled_whole certificate_grammar b (spelled_in b).0 (spells b c.args.self.now.form)) c.from_bytes.ensures.gives).1
