-- What a signature means.
use Rattle.std.specs.Prelude.{ℕ, List, [], ◌∷◌}
use Rattle.sshkey_model.specs.Signatures as model
use Rattle.sshkey_base.specs.declared.algorithm.Algorithm.{Algorithm}
use Rattle.sshkey_base.specs.Comparisons.{algorithm_key}
use Rattle.sshkey_base.specs.Names.{algorithm_of}
use Rattle.sshkey_keys.specs.declared.signature.Signature.{Signature}

abbrev pub signature_of : Signature → model.Signature
signature_of g = record { algorithm = algorithm_of g.algorithm; blob = g.blob }

-- the algorithm that stands beside the bytes
abbrev pub signature_algorithm : Signature → Algorithm
signature_algorithm g = g.algorithm

-- the algorithm, and then the bytes
abbrev pub signature_parts : Signature → List (List ℕ)
signature_parts g = algorithm_key g.algorithm ∷ g.blob ∷ []
