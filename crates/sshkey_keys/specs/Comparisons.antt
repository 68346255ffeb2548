-- What equality and order of public keys say.
use Rattle.std.specs.Prelude.{◌≡◌, ◌↔◌, ℕ, List, [], ◌∷◌, Bool, true}
use Rattle.sshkey_model.specs.Parts.{flat, Fits}
use Rattle.sshkey_model.specs.Keys.{IsKey, normal_key}
use Rattle.sshkey_kinds.specs.Comparisons.{dsa_parts, ecdsa_parts, rsa_parts, sk_ecdsa_parts, sk_ed25519_parts, opaque_parts}
use Rattle.sshkey_keys.specs.declared.key_data.KeyData.{KeyData}
use Rattle.sshkey_keys.specs.declared.key_data.KeyData.TheVariants as kinds
use Rattle.sshkey_keys.specs.Keys.{key_of}

-- It is well-formed.
abbrev pub HasForm : KeyData → Type 0
HasForm k = IsKey (key_of k)

-- Two that can be written are equal exactly if the same bytes are written of them.
abbrev pub IsEqualityOfForms : (KeyData → KeyData → Bool) → Type 0
IsEqualityOfForms eq = (x y : KeyData) → HasForm x → HasForm y → Fits (normal_key (key_of x)) → Fits (normal_key (key_of y)) → (eq x y ≡ true) ↔ (flat (normal_key (key_of x)) ≡ flat (normal_key (key_of y)))

-- its kind, and what it is made of
abbrev pub key_parts : KeyData → List (List ℕ)
key_parts (kinds.Dsa k) = (0 ∷ []) ∷ dsa_parts k
key_parts (kinds.Ecdsa k) = (1 ∷ []) ∷ ecdsa_parts k
key_parts (kinds.Ed25519 k) = (2 ∷ []) ∷ k.0 ∷ []
key_parts (kinds.Rsa k) = (3 ∷ []) ∷ rsa_parts k
key_parts (kinds.SkEcdsaSha2NistP256 k) = (4 ∷ []) ∷ sk_ecdsa_parts k
key_parts (kinds.SkEd25519 k) = (5 ∷ []) ∷ sk_ed25519_parts k
key_parts (kinds.Other k) = (6 ∷ []) ∷ opaque_parts k
