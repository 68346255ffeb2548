use Rattle.sshkey_base.specs.Causes.{cause}
use Rattle.sshkey_keys.specs.Signatures.{signature_of}
use Rattle.sshkey_cert_ref.specs.Certificates.{spelled_in}
use Rattle.sshkey_cert_ref.proofs.Answers.{answered}
use Rattle.sshkey_cert_ref.proofs.Certificates.{spelled_by, signature_is}
use Rattle.sshkey_cert_ref.proofs.certificate_ref.CertificateRef.signature.Goals as goal

pub returns-clause-value : goal.returns-clause-value
returns-clause-value c =
    let r = c.args.self.now in
    answered signature_of cause _ _ c.to_signature.result (signature_is r.bytes.now (spelled_in r.bytes.now) (spelled_by r.bytes.now r.form) _ r.last) c.to_signature.ensures.value
