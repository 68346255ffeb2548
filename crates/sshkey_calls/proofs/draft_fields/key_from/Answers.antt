use Rattle.std.proofs.Common.{ap, inr, subst}
use Rattle.sshkey_base.specs.Causes.{cause}
use Rattle.sshkey_keys.specs.Keys.{key_of}
use Rattle.sshkey_model.specs.Keys.{SpellsKey, key_data_at}
use Rattle.sshkey_keys_ref.specs.Keys.{key_bytes}
use Rattle.sshkey_model.specs.Reading.{whole}
use Rattle.sshkey_calls.specs.Drafts.{number_of}
use Rattle.sshkey_calls.proofs.DraftNumbers.{key_is, kept_number}
use Rattle.sshkey_calls.proofs.Rooms.{kept_bytes}
use Rattle.sshkey_calls.proofs.draft_fields.key_from.Goals as goal

pub returns-in-Ok-to_key_data : goal.returns-in-Ok-to_key_data
returns-in-Ok-to_key_data c =
    let b = c.args.blob.now in
    let k = key_of c.in-Ok-to_key_data.key in
    let same = kept_bytes key_bytes cause b c.in-Ok.read (whole key_data_at b) c.in-Ok.ensures.keeps in
    let spelled = subst (SpellsKey k) same c.in-Ok-to_key_data.ensures.spelled in
    (spelled, ap number_of (key_is k b spelled))

pub returns : goal.returns
returns c = inr (kept_number key_bytes cause c.args.blob.now (whole key_data_at c.args.blob.now) c.in-Err.error c.error_status.result c.error_status.ensures.range c.error_status.ensures.fault c.in-Err.ensures.keeps)
