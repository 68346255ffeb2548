use Rattle.std.proofs.Common.{[]}
use Rattle.sshkey_keys_ref.specs.KeyBytes.{named_of}
use Rattle.sshkey_keys_ref.proofs.Keys.{body_after, no_body}
use Rattle.sshkey_keys_ref.proofs.key_ref.key_in.Goals as goal

pub returns-in-Ok : goal.returns-in-Ok
returns-in-Ok c = λ k e. c.body_in.ensures k [] (body_after c.args.bytes.now c.take_name.new.bytes.now (named_of c.in-Ok.name) k c.in-Ok.ensures.value e)

pub returns : goal.returns
returns c = λ k e. no_body c.args.bytes.now c.in-Err.ensures.met k c.in-Err.ensures.is e
