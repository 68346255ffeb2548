use Rattle.sshkey_cert_ref.specs.Certificates.{spelled_in}
use Rattle.sshkey_cert_ref.proofs.Certificates.{spelled_by, signature_spells}
use Rattle.sshkey_cert_ref.proofs.certificate_ref.CertificateRef.signature_ref.Goals as goal

pub returns-clause-spelled : goal.returns-clause-spelled
returns-clause-spelled c =
    let r = c.args.self.now in
    signature_spells r.bytes.now (spelled_in r.bytes.now) (spelled_by r.bytes.now r.form) _ r.last
