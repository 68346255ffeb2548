use Rattle.std.proofs.Common.{◌≡◌, subst}
use Rattle.host_keys.specs.Answers.{RefusesHostCertificate}
use Rattle.host_keys.specs.Hosts as hosts
use Rattle.host_keys.specs.Hosts.{IsHostCertificate, lines_of}
use Rattle.sshkey_entry_calls.specs.Revocations.{are_read, one_revokes, one_revokes_key, reads_of}
use Rattle.sshkey_known_hosts.specs.Hmac.{hmac_sha1}
use Rattle.sshkey_entry_calls.specs.Hosts.{IsJudgedBy, login_with}
use Rattle.sshkey_entry_calls.proofs.Hosts.{known_as}
use Rattle.sshkey_entry_calls.proofs.host_certificate.host_certificate_status.Goals as goal

pub returns-clause-verdict : goal.returns-clause-verdict
returns-clause-verdict c _ =
    let reads = reads_of c.in-Ok.files in
    let known = hosts.login_of c.with_texts-known.result hmac_sha1 in
    let login : known ≡ login_with c.args.login.now (lines_of c.args.texts.now) = c.with_texts-known.ensures in
    let bytes = c.args.certificate.now in
    let by = c.tell_known.new.known_by in (
      reads,
      c.in-Ok.ensures.read,
      subst (λ (x : hosts.HostCheck). IsJudgedBy (IsHostCertificate x (λ _. c.args.said.now.is_yes) (one_revokes reads) (one_revokes_key reads) bytes) (RefusesHostCertificate x (λ _. c.args.said.now.is_yes) (one_revokes reads) (one_revokes_key reads) bytes) (are_read reads) by c.tell_known.result) login
          (known_as (IsHostCertificate known (λ _. c.args.said.now.is_yes) (one_revokes reads) (one_revokes_key reads) bytes) (RefusesHostCertificate known (λ _. c.args.said.now.is_yes) (one_revokes reads) (one_revokes_key reads) bytes) (are_read reads) by c.tell_known.result c.check_certificate.result c.are_read.result c.tell_known.ensures.number c.are_read.ensures c.tell_known.ensures.some c.check_certificate.ensures.exactly c.check_certificate.ensures.refused),
    )
