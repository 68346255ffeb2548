use Rattle.std.proofs.Common.{inl, refl, subst, sym}
use Rattle.sshkey_base.specs.Causes.{cause}
use Rattle.sshkey_model.specs.Keys.{SpellsKey, key_data_at}
use Rattle.sshkey_keys_ref.specs.Keys.{key_bytes}
use Rattle.sshkey_model.specs.Reading.{whole}
use Rattle.sshkey_calls.proofs.Rooms.{kept_bytes, refused}
use Rattle.sshkey_c.proofs.signature.raf_signature_question.Goals as goal

pub returns-in-Ok : goal.returns-in-Ok
returns-in-Ok c =
    let k = c.in-Ok.ensures.accepts in
    let same = kept_bytes key_bytes cause c.args.key.now c.in-Ok.signer (whole key_data_at c.args.key.now) c.in-Ok.ensures.keeps in
    inl (k.0, k.1, c.ask_under.ensures k.0 (subst (SpellsKey k.0) (sym same) k.1))

pub returns-in-Err : goal.returns-in-Err
returns-in-Err c = refused key_bytes cause c.args.key.now c.in-Err.error _ c.error_status.ensures.fault SpellsKey key_data_at c.in-Err.ensures.keeps (refl, refl)
