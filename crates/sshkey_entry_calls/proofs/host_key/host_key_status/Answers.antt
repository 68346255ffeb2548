use Rattle.std.proofs.Common.{◌≡◌, subst}
use Rattle.host_keys.specs.Answers.{RefusesHostKey}
use Rattle.host_keys.specs.Hosts as hosts
use Rattle.host_keys.specs.Hosts.{IsHostKey, lines_of}
use Rattle.sshkey_entry_calls.specs.Revocations.{are_read, one_revokes_key, reads_of}
use Rattle.sshkey_keys.specs.Keys.{key_of}
use Rattle.sshkey_keys_ref.specs.Keys.{key_bytes}
use Rattle.sshkey_known_hosts.specs.Hmac.{hmac_sha1}
use Rattle.sshkey_model.specs.Keys.{Key}
use Rattle.sshkey_model.proofs.Blobs.{key_blobs}
use Rattle.sshkey_entry_calls.specs.Hosts.{IsJudged, login_with}
use Rattle.sshkey_entry_calls.proofs.Hosts.{for_others, judged_as}
use Rattle.sshkey_entry_calls.proofs.host_key.host_key_status.Goals as goal

pub returns : goal.returns
returns c k spelled _ =
    let reads = reads_of c.in-Ok-read.files in
    let known = hosts.login_of c.with_texts-known.result hmac_sha1 in
    let login : known ≡ login_with c.args.login.now (lines_of c.args.texts.now) = c.with_texts-known.ensures in
    let one = key_blobs.one (key_of c.in-Ok.key) k (key_bytes c.args.key.now) c.in-Ok.ensures.spelled spelled in
    let why = RefusesHostKey known (one_revokes_key reads) (key_of c.in-Ok.key) in (
      reads,
      c.in-Ok-read.ensures.read,
      subst (λ (x : hosts.HostCheck × Key). IsJudged (IsHostKey x.0 (one_revokes_key reads) x.1) (RefusesHostKey x.0 (one_revokes_key reads) x.1) (are_read reads) c.answer_status.result) (λ i. (login i, one i))
          (judged_as (IsHostKey known (one_revokes_key reads) (key_of c.in-Ok.key)) why (are_read reads) c.check_key.result c.answer_status.result c.are_read.result c.answer_status.ensures.number c.are_read.ensures c.answer_status.ensures.some c.check_key.ensures.exactly (for_others why c.check_key.result c.check_key.ensures.refused)),
    )
