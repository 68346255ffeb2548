-- What the types of names mean: the model's values.
use Rattle.std.specs.Prelude.{option_map, Bool, true, false}
use Rattle.sshkey_model.specs.Names as model
use Rattle.sshkey_base.specs.declared.algorithm.Algorithm.{Algorithm}
use Rattle.sshkey_base.specs.declared.algorithm.Algorithm.TheVariants as algorithm
use Rattle.sshkey_base.specs.declared.algorithm.curve.EcdsaCurve.{EcdsaCurve}
use Rattle.sshkey_base.specs.declared.algorithm.curve.EcdsaCurve.TheVariants as curve
use Rattle.sshkey_base.specs.declared.algorithm.hash.HashAlg.{HashAlg}
use Rattle.sshkey_base.specs.declared.algorithm.hash.HashAlg.TheVariants as hash

abbrev pub curve_of : EcdsaCurve → model.Curve
curve_of curve.NistP256 = model.Nistp256
curve_of curve.NistP384 = model.Nistp384
curve_of curve.NistP521 = model.Nistp521

abbrev pub hash_of : HashAlg → model.Hash
hash_of hash.Sha256 = model.Sha256
hash_of hash.Sha512 = model.Sha512

abbrev pub algorithm_of : Algorithm → model.Algorithm
algorithm_of algorithm.Dsa = model.Dsa
algorithm_of (algorithm.Ecdsa curve) = model.Ecdsa (curve_of curve)
algorithm_of algorithm.Ed25519 = model.Ed25519
algorithm_of (algorithm.Rsa hash) = model.Rsa (option_map hash_of hash)
algorithm_of algorithm.SkEcdsaSha2NistP256 = model.SkEcdsa
algorithm_of algorithm.SkEd25519 = model.SkEd25519
algorithm_of (algorithm.Other name) = model.Other name

-- ---- kinds of algorithms

abbrev pub is_ecdsa : model.Algorithm → Bool
is_ecdsa (model.Ecdsa curve) = true
is_ecdsa _ = false

abbrev pub is_rsa : model.Algorithm → Bool
is_rsa (model.Rsa hash) = true
is_rsa _ = false

-- no private-use one
abbrev pub IsFixed : model.Algorithm → Type 0
IsFixed (model.Other name) = ⊥
IsFixed _ = Unit {0}
