use Rattle.std.proofs.Common.{None}
use Rattle.sshkey_keys_ref.proofs.key_ref.kind_in.Goals as goal

pub returns-in-Rsa : goal.returns-in-Rsa
returns-in-Rsa c = λ k q e. c.rsa_in.ensures None k q (rw c.in-Rsa.is at e)
