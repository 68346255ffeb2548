use Rattle.sshkey_cert_ref.specs.CertificateRef.{certificate_of}
use Rattle.sshkey_model.specs.Certificates.{Certificate}
use Rattle.sshkey_calls.proofs.Validations.{answered_signed, asked_signed}
use Rattle.sshkey_calls.proofs.validity.is_signed.Goals as goal

pub returns-in-Ok : goal.returns-in-Ok
returns-in-Ok c =
    let d : Certificate = certificate_of c.args.certificate.now in
    answered_signed c.args.verification.is_yes d c.in-Ok.yes (c.in-Ok.ensures.answer d.signed.signature_key d.signature c.signature_key_ref-key.ensures.spelled c.signature_ref.ensures.spelled)

pub returns-in-Err : goal.returns-in-Err
returns-in-Err c =
    let d : Certificate = certificate_of c.args.certificate.now in
    asked_signed c.args.verification.is_yes d (c.in-Err.ensures.answer d.signed.signature_key d.signature c.signature_key_ref-key.ensures.spelled c.signature_ref.ensures.spelled)
