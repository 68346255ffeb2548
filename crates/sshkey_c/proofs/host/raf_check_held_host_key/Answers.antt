use Rattle.std.proofs.Common.{◌∙◌, inl, subst, sym}
use Rattle.sshkey_base.specs.Causes.{cause}
use Rattle.sshkey_model.specs.Keys.{SpellsKey, key_data_at}
use Rattle.sshkey_keys_ref.specs.Keys.{key_bytes}
use Rattle.sshkey_model.specs.Reading.{whole}
use Rattle.sshkey_calls.proofs.Rooms.{kept_bytes, refused}
use Rattle.sshkey_known_hosts.proofs.HeldLines.{as_long}
use Rattle.sshkey_c.proofs.host.raf_check_held_host_key.Goals as goal

pub returns-then-not-is_whole-clause-verdict : goal.returns-then-not-is_whole-clause-verdict
returns-then-not-is_whole-clause-verdict c _ are = cc (sym c.if-not-is_whole.true ∙ c.is_whole.ensures.1 (as_long c.args.places.now c.args.held.now are))

pub returns-in-Ok-clause-verdict : goal.returns-in-Ok-clause-verdict
returns-in-Ok-clause-verdict c _ are =
    let k = c.in-Ok.ensures.accepts in
    let same = kept_bytes key_bytes cause c.args.key.now c.in-Ok.read (whole key_data_at c.args.key.now) c.in-Ok.ensures.keeps in
    inl (k.0, k.1, c.held_host_key_status.ensures are k.0 (subst (SpellsKey k.0) (sym same) k.1))

pub returns-in-Err-clause-verdict : goal.returns-in-Err-clause-verdict
returns-in-Err-clause-verdict c _ _ = refused key_bytes cause c.args.key.now c.in-Err.error _ c.error_status.ensures.fault SpellsKey key_data_at c.in-Err.ensures.keeps tt
