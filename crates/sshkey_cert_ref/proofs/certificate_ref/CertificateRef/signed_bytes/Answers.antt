use Rattle.sshkey_cert_ref.specs.Certificates.{spelled_in}
use Rattle.sshkey_cert_ref.proofs.Certificates.{spelled_by, before_signature}
use Rattle.sshkey_cert_ref.proofs.certificate_ref.CertificateRef.signed_bytes.Goals as goal

pub returns-clause-front : goal.returns-clause-front
returns-clause-front c =
    let r = c.args.self.now in
    before_signature r.bytes.now (spelled_in r.bytes.now) (spelled_by r.bytes.now r.form) r.signed.now r.before
