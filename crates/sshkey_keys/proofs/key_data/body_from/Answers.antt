use Rattle.std.proofs.Common.{refl}
use Rattle.sshkey_base.specs.declared.algorithm.Algorithm.TheVariants as algorithms
use Rattle.sshkey_base.specs.Names.{algorithm_of}
use Rattle.sshkey_keys.proofs.Bodies.{body_beside}
use Rattle.sshkey_keys.proofs.key_data.body_from.Goals as goal

pub returns-in-Ecdsa-clause-beside : goal.returns-in-Ecdsa-clause-beside
returns-in-Ecdsa-clause-beside g c = rw c.in-Ecdsa.is (body_beside (algorithm_of (algorithms.Ecdsa c.in-Ecdsa.curve)) _ _ _ refl c.ecdsa_from.ensures.gives)
