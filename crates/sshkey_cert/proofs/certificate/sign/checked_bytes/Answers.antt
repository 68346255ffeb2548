use Rattle.sshkey_cert_values.specs.CertificateFields.{to_be_signed_of}
use Rattle.sshkey_cert.proofs.NormalForms.{blob_fits}
use Rattle.sshkey_cert.proofs.certificate.sign.checked_bytes.Goals as goal

pub returns-clause-fits : goal.returns-clause-fits
returns-clause-fits c = blob_fits (to_be_signed_of c.args.fields.now) c.signed_bytes.result c.signed_bytes.ensures
