use Rattle.std.proofs.Common.{inl}
use Rattle.sshkey_base.specs.Causes.{cause}
use Rattle.sshkey_cert_ref.specs.CertificateRef.{certificate_bytes}
use Rattle.sshkey_model.specs.Certificates.{certificate_at, SpellsCertificate}
use Rattle.sshkey_calls.proofs.Rooms.{refused}
use Rattle.sshkey_entry_calls.specs.Hosts.{own_lines}
use Rattle.sshkey_entry_calls.proofs.Verified.{told}
use Rattle.sshkey_c.proofs.host.raf_check_host_certificate.Goals as goal

pub returns-in-Ok-clause-verdict : goal.returns-in-Ok-clause-verdict
returns-in-Ok-clause-verdict c _ =
    let read = c.in-Ok.ensures.accepts in
    inl (_, read, told c.args.login.now (own_lines c.args.login.now) c.args.certificate.now c.args.is_verified c.host_certificate_status.new.known_by c.host_certificate_status.result c.of.result.is_yes c.of.ensures c.host_certificate_status.ensures.verdict)

pub returns-in-Err-clause-verdict : goal.returns-in-Err-clause-verdict
returns-in-Err-clause-verdict c _ = rw c.tell_unknown-in-Err.ensures.same (refused certificate_bytes cause c.args.certificate.now c.in-Err.error _ c.error_status.ensures.fault SpellsCertificate certificate_at c.in-Err.ensures.keeps tt)
