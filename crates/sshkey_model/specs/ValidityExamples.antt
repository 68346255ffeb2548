-- Worked examples: when a certificate is valid.
use Rattle.std.specs.Prelude.{◌≡◌, ℕ, List, [], ◌∷◌, ◌++◌, replicate, Bool, true, false, ◌&&◌, codes, bytes_eq, ◌-◌, ◌^◌}
use Rattle.sha2.specs.Sha256.{sha256}
use Rattle.sshkey_model.specs.HexText.{hex}
use Rattle.sshkey_model.specs.Parts.{flat}
use Rattle.sshkey_model.specs.Names.{Sha256, Algorithm, algorithm_name, Sha512}
use Rattle.sshkey_model.specs.Keys.{Head256, key}
use Rattle.sshkey_model.specs.Certificates.{Certificate}
use Rattle.sshkey_model.specs.Fingerprints.{fingerprint, Fingerprint}
use Rattle.sshkey_model.specs.Verification.{Question}
use Rattle.sshkey_model.specs.Validity.{IsValid}
use Rattle.sshkey_model.specs.KeyExamples.{ed25519_key, rsa_key, rsa_bytes, rsa_256_bytes}
use Rattle.sshkey_model.specs.CertificateExamples.{small_certificate, small_bytes, rsa_certificate, endless_fields}

abbrev pub zero_signed : Certificate
zero_signed = record { signed = small_certificate ed25519_key; signature = record { algorithm = Algorithm.Ed25519; blob = replicate 64 0 } }

-- the SHA-256 fingerprint of its signature key
abbrev pub right_fingerprint : Fingerprint
right_fingerprint = record { hash = Sha256; digest = hex "5025222ebecf8ecf7014524c0c1c8b81cdcdaed754df8e0e814338e7064f7084" }

-- by a verifier that says yes to all, with that fingerprint
abbrev pub IsValidAt : ℕ → Type 0
IsValidAt t = IsValid (λ q. true) (right_fingerprint ∷ []) t zero_signed

-- From 10 on, and before 20.
abbrev pub Window : Type 0
Window = (IsValidAt 9 → ⊥) × IsValidAt 10 × IsValidAt 19 × (IsValidAt 20 → ⊥)

-- the SHA-512 digest of the same key
abbrev pub longer_digest : List ℕ
longer_digest = hex "f079b878d4e2624f65e9647ce48a98f942b80176a345fe5ab8b0ff408c426502f01a90e210389767466db4fba1c86f081ec59bb76ceef06d3e1ba548557a0784"

-- The right SHA-512 digest is no SHA-256 fingerprint, whatever hash it is given with; nor is the
-- right SHA-256 digest given with the other hash.
abbrev pub OtherHash : Type 0
OtherHash = (IsValid (λ q. true) (record { hash = Sha512; digest = longer_digest } ∷ []) 10 zero_signed → ⊥)
    × (IsValid (λ q. true) (record { hash = Sha256; digest = longer_digest } ∷ []) 10 zero_signed → ⊥)
    × (IsValid (λ q. true) (record { hash = Sha512; digest = right_fingerprint.digest } ∷ []) 10 zero_signed → ⊥)

-- A certificate without an end is valid up to the last time that there is.
abbrev pub IsEndlessAt : ℕ → Type 0
IsEndlessAt t = IsValid (λ q. true) (right_fingerprint ∷ []) t (record { signed = endless_fields; signature = zero_signed.signature })

abbrev pub Endless : Type 0
Endless = (IsEndlessAt 9 → ⊥) × IsEndlessAt 10 × IsEndlessAt (2 ^ 63 - 1) × (IsEndlessAt (2 ^ 63) → ⊥)

-- Not without the fingerprint, nor where the verifier says no.
abbrev pub Refused : Type 0
Refused = (IsValid (λ q. true) [] 10 zero_signed → ⊥)
    × (IsValid (λ q. true) (record { hash = Sha256; digest = replicate 32 0 } ∷ []) 10 zero_signed → ⊥)
    × (IsValid (λ q. false) (right_fingerprint ∷ []) 10 zero_signed → ⊥)

-- the SHA-256 of an RSA key's normal form, and that of its form under a name with a hash
abbrev pub rsa_fingerprint : Fingerprint
rsa_fingerprint = record { hash = Sha256; digest = hex "1ce647e6309d26293ad336d303de6cea44175b6baaec86a4548b7c474d5a7c25" }

abbrev pub headed_fingerprint : List ℕ
headed_fingerprint = hex "1deeb741dfa5b10ae85b20697af4e877c12061f8baf64242ae3581acd9c19c87"

-- says yes to one algorithm's signature 00 over these bytes, and to nothing else
abbrev pub only : List ℕ → Question → Bool
only message q = bytes_eq (algorithm_name q.algorithm) (codes "rsa-sha2-256") && bytes_eq q.message message && bytes_eq q.blob (hex "00")

-- The authority's signature is over the normal signed bytes, whatever name stood there.
abbrev pub AuthoritySignature : Type 0
AuthoritySignature = IsValid (only (small_bytes ++ hex "00000018" ++ rsa_bytes)) (rsa_fingerprint ∷ []) 10 rsa_certificate
    × (IsValid (only (small_bytes ++ hex "0000001d" ++ rsa_256_bytes)) (rsa_fingerprint ∷ []) 10 rsa_certificate → ⊥)

-- Its fingerprint is that of its key's normal form, and not of the bytes as they came.
abbrev pub AuthorityFingerprint : Type 0
AuthorityFingerprint = IsValid (λ q. true) (rsa_fingerprint ∷ []) 10 rsa_certificate
    × (fingerprint Sha256 rsa_key ≡ rsa_fingerprint)
    × (sha256 (flat (key rsa_key Head256)) ≡ headed_fingerprint)
