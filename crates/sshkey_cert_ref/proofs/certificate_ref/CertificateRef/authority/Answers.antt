use Rattle.sshkey_cert_ref.specs.Certificates.{spelled_in}
use Rattle.sshkey_cert_ref.proofs.Certificates.{spelled_by, same_signer}
use Rattle.sshkey_cert_ref.proofs.Answers.{renamed_signer}
use Rattle.sshkey_cert_ref.proofs.certificate_ref.CertificateRef.authority.Goals.{in-Ok, in-Err}
use Rattle.sshkey_cert_ref.proofs.certificate_ref.CertificateRef.authority.Goals as goal

pub returns-clause-fingerprint : goal.returns-clause-fingerprint
returns-clause-fingerprint c =
    let r = c.args.self.now in
    let x = spelled_in r.bytes.now in
    elim c.match-fingerprint.branch [
      | in-Ok w ↦ let h = w.in-Ok.ensures in rw (w.result-is, ← same_signer r.bytes.now x (spelled_by r.bytes.now r.form) _ h.0 r.fields.signature_key h.1) h.2
      | in-Err w ↦ rw w.result-is tt
    ]

pub returns-clause-asks : goal.returns-clause-asks
returns-clause-asks c =
    let r = c.args.self.now in
    let x = spelled_in r.bytes.now in
    elim c.match-fingerprint.branch [
      | in-Ok w ↦ rw w.result-is tt
      | in-Err w ↦ rw w.result-is (renamed_signer r.bytes.now x (spelled_by r.bytes.now r.form) _ r.fields.signature_key w.in-Err.ensures.1)
    ]
