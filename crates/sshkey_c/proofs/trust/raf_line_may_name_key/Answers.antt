use Rattle.std.proofs.Common.{inl, subst}
use Rattle.sshkey_base.specs.Causes.{cause}
use Rattle.sshkey_keys.specs.Keys.{key_of}
use Rattle.sshkey_model.specs.Keys.{SpellsKey, key_data_at}
use Rattle.sshkey_keys_ref.specs.Keys.{key_bytes}
use Rattle.sshkey_model.specs.Reading.{whole}
use Rattle.sshkey_calls.proofs.Rooms.{kept_bytes, refused}
use Rattle.sshkey_c.proofs.Verdicts.{no_memory}
use Rattle.sshkey_c.proofs.trust.raf_line_may_name_key.Goals as goal

pub returns-in-Ok : goal.returns-in-Ok
returns-in-Ok c =
    let k = c.in-Ok.ensures.accepts in
    inl (k.0, k.1, no_memory k.0 c.args.line.now)

pub returns-in-Ok-to_key_data : goal.returns-in-Ok-to_key_data
returns-in-Ok-to_key_data c =
    let same = kept_bytes key_bytes cause c.args.key.now c.in-Ok.read (whole key_data_at c.args.key.now) c.in-Ok.ensures.keeps in
    inl (key_of c.in-Ok-to_key_data.key, subst (SpellsKey (key_of c.in-Ok-to_key_data.key)) same c.in-Ok-to_key_data.ensures.spelled, c.line_status.ensures)

pub returns : goal.returns
returns c = refused key_bytes cause c.args.key.now c.in-Err.error _ c.error_status.ensures.fault SpellsKey key_data_at c.in-Err.ensures.keeps tt
