-- Worked examples: what a verifier is asked, and about which pairs of a key and an algorithm.
use Rattle.std.specs.Prelude.{◌≡◌, ℕ, List, [], ◌∷◌, ◌++◌, length, replicate, Bool, true, false, Some, None, is_some, filter, codes}
use Rattle.sshkey_model.specs.HexText.{hex}
use Rattle.sshkey_model.specs.Names.{Nistp256, Nistp384, Nistp521, Sha256, Sha512, Algorithm, Dsa, Ecdsa, Ed25519, Rsa, SkEcdsa, SkEd25519, Other}
use Rattle.sshkey_model.specs.Keys.{Key}
use Rattle.sshkey_model.specs.Verification.{question, security_key_message, IsAccepted}
use Rattle.sshkey_model.specs.KeyExamples.{ed25519_point, ed25519_key, rsa_key, p256_point, sk_ecdsa_key, sk_ed25519_key, opaque_key}
use Rattle.sshkey_model.specs.SignatureExamples.{sk_ecdsa_blob, sk_ecdsa_signature, sk_ed25519_within, sk_ed25519_signature}

abbrev pub dsa_key : Key
dsa_key = Key.Dsa (record { p = hex "05"; q = hex "06"; g = hex "07"; y = hex "08" })

abbrev pub p256_key : Key
p256_key = Key.Ecdsa Nistp256 p256_point

abbrev pub p384_key : Key
p384_key = Key.Ecdsa Nistp384 (2 ∷ replicate 48 9)

abbrev pub p521_key : Key
p521_key = Key.Ecdsa Nistp521 (2 ∷ replicate 66 9)

abbrev pub every_algorithm : List Algorithm
every_algorithm = Dsa ∷ Ecdsa Nistp256 ∷ Ecdsa Nistp384 ∷ Ecdsa Nistp521 ∷ Ed25519 ∷ Rsa None ∷ Rsa (Some Sha256) ∷ Rsa (Some Sha512) ∷ SkEcdsa ∷ SkEd25519 ∷ Other (codes "name@example.com") ∷ []

-- whether a signature under the algorithm is asked about at all
abbrev pub is_asked : Key → Algorithm → Bool
is_asked k a = is_some (question k [] (record { algorithm = a; blob = sk_ecdsa_blob }))

abbrev pub asked_under : Key → List Algorithm
asked_under k = filter (is_asked k) every_algorithm

-- Of all algorithms, those that a key is asked about under.
abbrev pub Dispatch : Type 0
Dispatch = (asked_under dsa_key ≡ Dsa ∷ [])
    × (asked_under p256_key ≡ Ecdsa Nistp256 ∷ [])
    × (asked_under p384_key ≡ Ecdsa Nistp384 ∷ [])
    × (asked_under p521_key ≡ Ecdsa Nistp521 ∷ [])
    × (asked_under ed25519_key ≡ Ed25519 ∷ [])
    × (asked_under rsa_key ≡ Rsa (Some Sha256) ∷ Rsa (Some Sha512) ∷ [])
    × (asked_under sk_ecdsa_key ≡ SkEcdsa ∷ [])
    × (asked_under sk_ed25519_key ≡ SkEd25519 ∷ [])
    × (asked_under opaque_key ≡ [])

-- asked about itself: algorithm, key, message and blob
abbrev pub IsAskedItself : Key → Algorithm → Type 0
IsAskedItself k a = question k (hex "aabb") (record { algorithm = a; blob = hex "cc" }) ≡ Some (record { algorithm = a; key = k; message = hex "aabb"; blob = hex "cc" })

abbrev pub PlainQuestions : Type 0
PlainQuestions = IsAskedItself dsa_key Dsa
    × IsAskedItself p256_key (Ecdsa Nistp256)
    × IsAskedItself p384_key (Ecdsa Nistp384)
    × IsAskedItself p521_key (Ecdsa Nistp521)
    × IsAskedItself ed25519_key Ed25519
    × IsAskedItself rsa_key (Rsa (Some Sha256))
    × IsAskedItself rsa_key (Rsa (Some Sha512))

-- SHA-256 of the empty string (FIPS 180-4)
abbrev pub empty_digest : List ℕ
empty_digest = hex "e3b0c44298fc1c149afbf4c8996fb92427ae41e4649b934ca495991b7852b855"

-- A security key with no application, and the empty message: the digest of nothing, the trailer,
-- and the digest again, under the plain key.
abbrev pub SecurityKeyQuestions : Type 0
SecurityKeyQuestions = (question sk_ed25519_key [] sk_ed25519_signature ≡ Some (record { algorithm = Ed25519; key = Key.Ed25519 ed25519_point; message = empty_digest ++ hex "01 00000009" ++ empty_digest; blob = sk_ed25519_within }))
    × (length (security_key_message [] [] sk_ed25519_signature.blob) ≡ 69)

-- The application is digested first, and the message last.
abbrev pub SecurityKeyOrder : Type 0
SecurityKeyOrder = question sk_ecdsa_key [] sk_ecdsa_signature ≡ Some (record {
  algorithm = Ecdsa Nistp256;
  key = p256_key;
  message = hex "e30610e8a162115960fe1ec223e6529c9f4b6e80200dcb5e5c321c8af1e2b1bf" ++ hex "01 000000ec" ++ empty_digest;
  blob = hex "00000020 1b35a1c6469a43a3d09d490d6ff8ca1bc2486a2edeb8aa7d119e4c70b9c18110 00000021 009724a2a4449a90357485ed1df0161274d20083342b02756794bc3f068fcdc15e";
})

-- The verifier's answer counts where it is asked, and nowhere else.
abbrev pub VerifierAnswers : Type 0
VerifierAnswers = IsAccepted (λ q. true) sk_ed25519_key [] sk_ed25519_signature
    × (IsAccepted (λ q. false) sk_ed25519_key [] sk_ed25519_signature → ⊥)
    × (IsAccepted (λ q. true) ed25519_key [] sk_ed25519_signature → ⊥)
