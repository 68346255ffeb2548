use Rattle.std.proofs.Common.{true}
use Rattle.sshkey_keys_ref.specs.KeyBytes.{named_of}
use Rattle.sshkey_keys_ref.proofs.Keys.{plain_head, no_head}
use Rattle.sshkey_keys_ref.proofs.key_data_ref.is_headed_plainly.Goals as goal

pub returns-in-Ok : goal.returns-in-Ok
returns-in-Ok c = rw c.is_hashed.ensures (plain_head c.args.bytes.now c.take_name.new.bytes.now (named_of c.in-Ok.name) c.in-Ok.ensures.value)

pub returns : goal.returns
returns c = no_head c.args.bytes.now c.in-Err.ensures.met true c.in-Err.ensures.is
