use Rattle.sshkey_base.specs.Names.{hash_of}
use Rattle.sshkey_keys_ref.proofs.Keys.{normal_digest, made_digest}
use Rattle.sshkey_keys_ref.proofs.key_data_ref.KeyDataRef.fingerprint.Goals as goal

pub returns-in-Some : goal.returns-in-Some
returns-in-Some c = normal_digest (hash_of c.args.hash_alg) c.args.self.now.bytes.now c.in-Some.bytes.now c.of_bytes.result c.args.self.now.form c.in-Some.ensures.0 c.in-Some.ensures.1 c.of_bytes.ensures.by c.of_bytes.ensures.digest

pub returns-in_ok-to_key_data-in-None : goal.returns-in_ok-to_key_data-in-None
returns-in_ok-to_key_data-in-None c = made_digest (hash_of c.args.hash_alg) c.args.self.now.bytes.now c.in_ok-to_key_data-in-None.field-0 c.fingerprint.result c.args.self.now.form c.in-None.ensures c.in_ok-to_key_data-in-None.ensures.value c.fingerprint.ensures.gives
