use Rattle.std.proofs.Common.{inl, refl}
use Rattle.sshkey_base.specs.Causes.{cause}
use Rattle.sshkey_cert_ref.specs.CertificateRef.{certificate_bytes, certificate_of}
use Rattle.sshkey_model.specs.Certificates.{certificate_at, SpellsCertificate}
use Rattle.sshkey_calls.proofs.Rooms.{refused}
use Rattle.sshkey_c.proofs.normal.raf_certificate_normal.Goals as goal

pub returns-in-Ok : goal.returns-in-Ok
returns-in-Ok c = inl (certificate_of c.in-Ok.read, c.in-Ok.ensures.accepts, c.write_certificate.ensures)

pub returns-in-Err : goal.returns-in-Err
returns-in-Err c = refused certificate_bytes cause c.args.certificate.now c.in-Err.error _ c.error_status.ensures.fault SpellsCertificate certificate_at c.in-Err.ensures.keeps (refl, refl)
