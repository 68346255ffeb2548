use Rattle.std.proofs.Common.{List, ℕ, inl, refl, subst}
use Rattle.sshkey_base.specs.Causes.{cause}
use Rattle.sshkey_cert_ref.specs.CertificateRef.{certificate_bytes, certificate_of}
use Rattle.sshkey_model.specs.Certificates.{certificate_at, SpellsCertificate}
use Rattle.sshkey_model.specs.Reading.{whole}
use Rattle.sshkey_calls.specs.Certificates.{ArePartsOf}
use Rattle.sshkey_calls.proofs.Rooms.{kept_bytes, refused}
use Rattle.sshkey_c.proofs.parts.raf_certificate_parts.Goals as goal

pub returns-in-Ok : goal.returns-in-Ok
returns-in-Ok c =
    let same = kept_bytes certificate_bytes cause c.args.certificate.now c.in-Ok.read (whole certificate_at c.args.certificate.now) c.in-Ok.ensures.keeps in
    inl (certificate_of c.in-Ok.read, c.in-Ok.ensures.accepts, (refl, subst (λ (b : List ℕ). ArePartsOf (certificate_of c.in-Ok.read) b c.parts_of.result) same c.parts_of.ensures))

pub returns-in-Err : goal.returns-in-Err
returns-in-Err c = refused certificate_bytes cause c.args.certificate.now c.in-Err.error _ c.error_status.ensures.fault SpellsCertificate certificate_at c.in-Err.ensures.keeps refl
