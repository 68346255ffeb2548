use Rattle.sshkey_cert_ref.specs.Certificates.{spelled_in}
use Rattle.sshkey_cert_ref.proofs.Certificates.{spelled_by, plain_signer}
use Rattle.sshkey_cert_ref.proofs.certificate_ref.CertificateRef.has_plain_key.Goals as goal

pub returns : goal.returns
returns c =
    let r = c.args.self.now in
    rw c.is_some.ensures (plain_signer r.bytes.now (spelled_in r.bytes.now) (spelled_by r.bytes.now r.form) _ c.normal_bytes.result r.fields.signature_key c.normal_bytes.ensures)
