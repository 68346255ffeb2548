use Rattle.sshkey_keys_ref.proofs.Keys.{ecdsa_found, ecdsa_refused}
use Rattle.sshkey_keys_ref.proofs.key_ref.ecdsa_in.Goals as goal

pub returns-in-Some : goal.returns-in-Some
returns-in-Some c = λ curve k q e. ecdsa_found curve c.args.bytes.now c.in-Some.ensures.0 q _ k c.in-Some.ensures.1 e

pub returns-in-None : goal.returns-in-None
returns-in-None c = λ curve k q e. ecdsa_refused curve c.args.bytes.now q c.in-None.ensures.0 k c.in-None.ensures.1 e
