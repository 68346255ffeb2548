use Rattle.sshkey_model.specs.Keys.{rsa_format}
use Rattle.sshkey_keys_ref.proofs.Keys.{same_value, never}
use Rattle.sshkey_keys_ref.proofs.key_ref.rsa_in.Goals as goal

pub returns-in-Some : goal.returns-in-Some
returns-in-Some c = λ h k q e. same_value (rsa_format.read c.args.bytes.now) _ k c.in-Some.ensures.0 q c.in-Some.ensures.1 e

pub returns-in-None : goal.returns-in-None
returns-in-None c = λ h k q e. never (rsa_format.read c.args.bytes.now) c.in-None.ensures.0 (k, q) c.in-None.ensures.1 e
