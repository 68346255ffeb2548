-- What equality and order of keys go by.
use Rattle.std.specs.Prelude.{ℕ, List, [], ◌∷◌}
use Rattle.sshkey_model.specs.Names.{Algorithm}
use Rattle.sshkey_base.specs.Comparisons.{algorithm_key}
use Rattle.sshkey_base.specs.Names.{algorithm_of}
use Rattle.sshkey_base.specs.Mpint.{mpint_of}
use Rattle.sshkey_kinds.specs.declared.dsa.DsaPublicKey.{DsaPublicKey}
use Rattle.sshkey_kinds.specs.declared.rsa.RsaPublicKey.{RsaPublicKey}
use Rattle.sshkey_kinds.specs.declared.ecdsa.EcdsaPublicKey.{EcdsaPublicKey}
use Rattle.sshkey_kinds.specs.declared.ecdsa.EcdsaPublicKey.TheVariants.{NistP256, NistP384, NistP521}
use Rattle.sshkey_kinds.specs.declared.sk.SkEcdsaSha2NistP256.{SkEcdsaSha2NistP256}
use Rattle.sshkey_kinds.specs.declared.sk.SkEd25519.{SkEd25519}
use Rattle.sshkey_kinds.specs.declared.opaque.OpaquePublicKey.{OpaquePublicKey}
use Rattle.sshkey_kinds.specs.EcPoint.{point_of}

abbrev pub dsa_parts : DsaPublicKey → List (List ℕ)
dsa_parts k = mpint_of k.p ∷ mpint_of k.q ∷ mpint_of k.g ∷ mpint_of k.y ∷ []

-- the curve by its place in the list of curves
abbrev pub ecdsa_parts : EcdsaPublicKey → List (List ℕ)
ecdsa_parts (NistP256 p) = (0 ∷ []) ∷ point_of p ∷ []
ecdsa_parts (NistP384 p) = (1 ∷ []) ∷ point_of p ∷ []
ecdsa_parts (NistP521 p) = (2 ∷ []) ∷ point_of p ∷ []

abbrev pub rsa_parts : RsaPublicKey → List (List ℕ)
rsa_parts k = mpint_of k.e ∷ mpint_of k.n ∷ []

abbrev pub sk_ecdsa_parts : SkEcdsaSha2NistP256 → List (List ℕ)
sk_ecdsa_parts k = point_of k.ec_point ∷ k.application ∷ []

abbrev pub sk_ed25519_parts : SkEd25519 → List (List ℕ)
sk_ed25519_parts k = k.public_key.0 ∷ k.application ∷ []

abbrev pub opaque_parts : OpaquePublicKey → List (List ℕ)
opaque_parts k = algorithm_key k.algorithm ∷ k.key ∷ []

-- its algorithm and its bytes
abbrev pub opaque_fields : OpaquePublicKey → Algorithm × List ℕ
opaque_fields k = (algorithm_of k.algorithm, k.key)
