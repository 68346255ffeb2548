use Rattle.std.proofs.Common.{refl}
use Rattle.sshkey_keys_ref.proofs.Keys.{plainly_normal, not_normal}
use Rattle.sshkey_keys_ref.proofs.key_data_ref.KeyDataRef.normal_bytes.Goals as goal

pub returns-then-not-is_headed_plainly : goal.returns-then-not-is_headed_plainly
returns-then-not-is_headed_plainly c = not_normal c.args.self.now.bytes.now c.is_headed_plainly.result c.is_headed_plainly.ensures c.if-not-is_headed_plainly.true

pub returns : goal.returns
returns c = (refl, plainly_normal c.args.self.now.bytes.now c.is_headed_plainly.result c.is_headed_plainly.ensures c.if-not-is_headed_plainly.false)
