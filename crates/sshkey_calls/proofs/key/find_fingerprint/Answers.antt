use Rattle.sshkey_base.specs.Causes.{cause}
use Rattle.sshkey_base.specs.Names.{hash_of}
use Rattle.sshkey_model.specs.Keys.{SpellsKey, key_data_at}
use Rattle.sshkey_keys_ref.specs.Keys.{key_bytes}
use Rattle.sshkey_model.specs.Reading.{whole}
use Rattle.sshkey_calls.proofs.Digests.{fingerprint_found, memory_out}
use Rattle.sshkey_calls.proofs.Rooms.{kept_bytes, refused}
use Rattle.sshkey_calls.proofs.key.find_fingerprint.Goals as goal

pub returns-in-Err : goal.returns-in-Err
returns-in-Err c = refused key_bytes cause c.args.key.now c.in-Err.error _ c.error_status.ensures.fault SpellsKey key_data_at c.in-Err.ensures.keeps tt

pub returns-in_default : goal.returns-in_default
returns-in_default c =
    let same = kept_bytes key_bytes cause c.args.key.now c.in-Ok.read (whole key_data_at c.args.key.now) c.in-Ok.ensures.keeps in
    memory_out (hash_of c.args.hash_alg) c.args.key.now (key_bytes c.in-Ok.read) same c.in-Ok.ensures.accepts c.in_default.ensures.1

pub returns : goal.returns
returns c =
    let same = kept_bytes key_bytes cause c.args.key.now c.in-Ok.read (whole key_data_at c.args.key.now) c.in-Ok.ensures.keeps in
    fingerprint_found (hash_of c.args.hash_alg) c.args.key.now (key_bytes c.in-Ok.read) same c.in-Ok-fingerprint.fingerprint c.in-Ok-fingerprint.ensures
