use Rattle.std.proofs.Common.{◌∙◌, inl, sym}
use Rattle.sshkey_base.specs.Causes.{cause}
use Rattle.sshkey_cert_ref.specs.CertificateRef.{certificate_bytes}
use Rattle.sshkey_model.specs.Certificates.{certificate_at, SpellsCertificate}
use Rattle.sshkey_calls.proofs.Rooms.{refused}
use Rattle.sshkey_known_hosts.proofs.HeldLines.{as_long}
use Rattle.sshkey_entry_calls.specs.Hosts.{held_lines}
use Rattle.sshkey_entry_calls.proofs.Verified.{told}
use Rattle.sshkey_c.proofs.host.raf_check_held_host_certificate.Goals as goal

pub returns-then-not-is_whole-clause-verdict : goal.returns-then-not-is_whole-clause-verdict
returns-then-not-is_whole-clause-verdict c _ are = cc (sym c.if-not-is_whole.true ∙ c.is_whole.ensures.1 (as_long c.args.places.now c.args.held.now are))

pub returns-in-Ok-clause-verdict : goal.returns-in-Ok-clause-verdict
returns-in-Ok-clause-verdict c _ are =
    let read = c.in-Ok.ensures.accepts in
    let login = c.args.login.now in
    inl (_, read, told login (held_lines login c.args.held.now) c.args.certificate.now c.args.is_verified c.held_host_certificate_status.new.known_by c.held_host_certificate_status.result c.of.result.is_yes c.of.ensures (c.held_host_certificate_status.ensures.verdict are))

pub returns-in-Err-clause-verdict : goal.returns-in-Err-clause-verdict
returns-in-Err-clause-verdict c _ _ = rw c.tell_unknown-in-Err.ensures.same (refused certificate_bytes cause c.args.certificate.now c.in-Err.error _ c.error_status.ensures.fault SpellsCertificate certificate_at c.in-Err.ensures.keeps tt)
