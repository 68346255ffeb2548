use Rattle.sshkey_base.specs.Causes.{cause}
use Rattle.sshkey_keys.specs.Keys.{key_of}
use Rattle.sshkey_cert_ref.specs.Certificates.{spelled_in}
use Rattle.sshkey_cert_ref.proofs.Answers.{answered, well_formed}
use Rattle.sshkey_cert_ref.proofs.Certificates.{spelled_by, spells, signer_is, signer_spells}
use Rattle.sshkey_cert_ref.proofs.certificate_ref.CertificateRef.signature_key.Goals as goal

pub returns-clause-value : goal.returns-clause-value
returns-clause-value c =
    let r = c.args.self.now in
    answered key_of cause _ _ c.to_key_data.result (signer_is r.bytes.now (spelled_in r.bytes.now) (spelled_by r.bytes.now r.form) _ r.fields.signature_key) c.to_key_data.ensures.value

pub returns-clause-well_formed : goal.returns-clause-well_formed
returns-clause-well_formed c =
    let r = c.args.self.now in
    let is = (spells r.bytes.now r.form).is in
    well_formed _ is.0.signature_key c.to_key_data.result (returns-clause-value c)

pub returns-clause-in_place : goal.returns-clause-in_place
returns-clause-in_place c =
    let r = c.args.self.now in
    c.to_key_data.ensures.in_place _ (signer_spells r.bytes.now (spelled_in r.bytes.now) (spelled_by r.bytes.now r.form) _ r.fields.signature_key)
