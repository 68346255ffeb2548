-- What equality and order of names say.
use Rattle.std.specs.Prelude.{◌≡◌, ◌↔◌, ℕ, List, [], ◌∷◌, Bool, true, Option, Some, None}
use Rattle.std.specs.declared.cmp.Ordering.{Ordering}
use Rattle.std.specs.declared.cmp.Ordering.TheVariants.{Equal}
use Rattle.std.specs.Ordering.{nat_cmp, ordering_then}
use Rattle.std.specs.Cmp.Lexicographic.{slice_cmp}
use Rattle.sshkey_base.specs.declared.algorithm.curve.EcdsaCurve.{EcdsaCurve}
use Rattle.sshkey_base.specs.declared.algorithm.curve.EcdsaCurve.TheVariants.{NistP256, NistP384, NistP521}
use Rattle.sshkey_base.specs.declared.algorithm.hash.HashAlg.{HashAlg}
use Rattle.sshkey_base.specs.declared.algorithm.hash.HashAlg.TheVariants.{Sha256, Sha512}
use Rattle.sshkey_base.specs.declared.algorithm.Algorithm.{Algorithm}
use Rattle.sshkey_base.specs.declared.algorithm.Algorithm.TheVariants.{Dsa, Ecdsa, Ed25519, Rsa, SkEcdsaSha2NistP256, SkEd25519, Other}
use Rattle.sshkey_base.specs.declared.certificate.field.Field.{Field}
use Rattle.sshkey_base.specs.declared.certificate.field.Field.TheVariants as field

-- Two are equal exactly if their meanings are.
abbrev pub IsEqualityOf : {X Y : Type 0} → (X → Y) → (X → X → Bool) → Type 0
IsEqualityOf {X} means eq = (x y : X) → (eq x y ≡ true) ↔ (means x ≡ means y)

-- Among those for which P holds, two are equal exactly if they mean the same.
abbrev pub IsEqualityAmong : {X Y : Type 0} → (X → Type 0) → (X → Y) → (X → X → Bool) → Type 0
IsEqualityAmong {X} P means eq = (x y : X) → P x → P y → (eq x y ≡ true) ↔ (means x ≡ means y)

-- Two that are equal mean the same.
abbrev pub EqualMeanSame : {X Y : Type 0} → (X → Y) → (X → X → Bool) → Type 0
EqualMeanSame {X} means eq = (x y : X) → eq x y ≡ true → means x ≡ means y

-- by the first number that differs
abbrev pub bytes_cmp : List ℕ → List ℕ → Ordering
bytes_cmp = slice_cmp nat_cmp

-- by the first part that differs, and there by the first number
abbrev pub parts_cmp : List (List ℕ) → List (List ℕ) → Ordering
parts_cmp = slice_cmp bytes_cmp

-- the first that is no equality
abbrev pub first_of : List Ordering → Ordering
first_of [] = Equal
first_of (o ∷ os) = ordering_then o (first_of os)

-- They are ordered as their keys.
abbrev pub IsOrderOf : {X : Type 0} → (X → List ℕ) → (X → X → Ordering) → Type 0
IsOrderOf {X} key cmp = (x y : X) → cmp x y ≡ bytes_cmp (key x) (key y)

-- They are ordered as their lists of parts.
abbrev pub IsOrderByParts : {X : Type 0} → (X → List (List ℕ)) → (X → X → Ordering) → Type 0
IsOrderByParts {X} parts cmp = (x y : X) → cmp x y ≡ parts_cmp (parts x) (parts y)

abbrev pub curve_key : EcdsaCurve → List ℕ
curve_key NistP256 = 0 ∷ []
curve_key NistP384 = 1 ∷ []
curve_key NistP521 = 2 ∷ []

abbrev pub hash_key : HashAlg → List ℕ
hash_key Sha256 = 0 ∷ []
hash_key Sha512 = 1 ∷ []

-- no hash before each hash
abbrev pub optional_hash_key : Option HashAlg → List ℕ
optional_hash_key None = 0 ∷ []
optional_hash_key (Some hash) = 1 ∷ hash_key hash

abbrev pub algorithm_key : Algorithm → List ℕ
algorithm_key Dsa = 0 ∷ []
algorithm_key (Ecdsa curve) = 1 ∷ curve_key curve
algorithm_key Ed25519 = 2 ∷ []
algorithm_key (Rsa hash) = 3 ∷ optional_hash_key hash
algorithm_key SkEcdsaSha2NistP256 = 4 ∷ []
algorithm_key SkEd25519 = 5 ∷ []
algorithm_key (Other name) = 6 ∷ name

abbrev pub field_key : Field → List ℕ
field_key field.PublicKey = 0 ∷ []
field_key field.Nonce = 1 ∷ []
field_key field.Serial = 2 ∷ []
field_key field.CertType = 3 ∷ []
field_key field.KeyId = 4 ∷ []
field_key field.ValidPrincipals = 5 ∷ []
field_key field.ValidAfter = 6 ∷ []
field_key field.ValidBefore = 7 ∷ []
field_key field.CriticalOptions = 8 ∷ []
field_key field.Extensions = 9 ∷ []
field_key field.SignatureKey = 10 ∷ []
field_key field.Signature = 11 ∷ []
field_key field.Comment = 12 ∷ []
