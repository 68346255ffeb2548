use Rattle.std.proofs.Common.{inl, refl, subst, sym}
use Rattle.sshkey_base.specs.Judgements.{SpellsSome}
use Rattle.sshkey_base.specs.Causes.{cause}
use Rattle.sshkey_model.specs.Keys.{SpellsKey, key_data_at}
use Rattle.sshkey_keys_ref.specs.Keys.{key_bytes}
use Rattle.sshkey_model.specs.Reading.{whole}
use Rattle.sshkey_calls.proofs.Rooms.{kept_bytes, never_memory, refused}
use Rattle.sshkey_calls.proofs.Revocations.{renamed_key}
use Rattle.sshkey_c.proofs.normal.raf_key_normal.Goals as goal

pub write_key-requires : goal.write_key-requires
write_key-requires c =
    let same = kept_bytes key_bytes cause c.args.key.now c.in-Ok.read (whole key_data_at c.args.key.now) c.in-Ok.ensures.keeps in
    subst (SpellsSome SpellsKey) (sym same) c.in-Ok.ensures.accepts

pub returns-in-Ok-clause-normal : goal.returns-in-Ok-clause-normal
returns-in-Ok-clause-normal c =
    let same = kept_bytes key_bytes cause c.args.key.now c.in-Ok.read (whole key_data_at c.args.key.now) c.in-Ok.ensures.keeps in
    let w = c.write_key.ensures.normal in
    inl (w.0, subst (SpellsKey w.0) same w.1, w.2)

pub returns-in-Ok-clause-memory : goal.returns-in-Ok-clause-memory
returns-in-Ok-clause-memory c one =
    let same = kept_bytes key_bytes cause c.args.key.now c.in-Ok.read (whole key_data_at c.args.key.now) c.in-Ok.ensures.keeps in
    renamed_key (key_bytes c.in-Ok.read) c.args.key.now same c.in-Ok.ensures.accepts (c.write_key.ensures.memory one)

pub returns-in-Err-clause-normal : goal.returns-in-Err-clause-normal
returns-in-Err-clause-normal c = refused key_bytes cause c.args.key.now c.in-Err.error _ c.error_status.ensures.fault SpellsKey key_data_at c.in-Err.ensures.keeps (refl, refl)

pub returns-in-Err-clause-memory : goal.returns-in-Err-clause-memory
returns-in-Err-clause-memory c one = absurd (never_memory key_bytes cause c.args.key.now (whole key_data_at c.args.key.now) _ _ c.error_status.ensures.range c.in-Err.ensures.keeps one)
