use Rattle.sshkey_base.specs.Causes.{cause}
use Rattle.sshkey_model.specs.Reading.{whole}
use Rattle.sshkey_keys.specs.Keys.{key_of}
use Rattle.sshkey_model.specs.Keys.{key_data_at, SpellsKey}
use Rattle.sshkey_keys_ref.proofs.WalkedBodies.{taken_again}
use Rattle.sshkey_keys_ref.proofs.Keys.{never_refused}
use Rattle.sshkey_keys_ref.proofs.Acceptance.{spelled_of}
use Rattle.sshkey_keys_ref.proofs.key_data_ref.KeyDataRef.to_key_data.Goals as goal

pub returns-clause-value : goal.returns-clause-value
returns-clause-value c = (taken_again key_of cause (whole key_data_at) c.args.self.now.bytes.now c.decode_whole.result c.args.self.now.form c.decode_whole.ensures.gives).0

pub returns-clause-memory : goal.returns-clause-memory
returns-clause-memory c = (taken_again key_of cause (whole key_data_at) c.args.self.now.bytes.now c.decode_whole.result c.args.self.now.form c.decode_whole.ensures.gives).1

pub returns-clause-spelled : goal.returns-clause-spelled
returns-clause-spelled c = spelled_of key_of SpellsKey cause c.args.self.now.bytes.now c.decode_whole.result c.decode_whole.ensures.accepts

pub returns-clause-in_place : goal.returns-clause-in_place
returns-clause-in_place c = λ k spelled is. never_refused k c.args.self.now.bytes.now c.decode_whole.result c.decode_whole.ensures.accepts c.decode_whole.ensures.asks spelled is
