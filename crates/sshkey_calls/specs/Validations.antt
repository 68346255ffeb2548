-- Whether a certificate is valid, given what the caller's verification said.
use Rattle.std.specs.Prelude.{◌≡◌, ◌≢◌, ℕ, List, map, Bool, ◌==◌, Option, Some, None, option_map, Result, Ok, Err}
use Rattle.sshkey_model.specs.Certificates.{Certificate, SpellsCertificate}
use Rattle.sshkey_model.specs.Fingerprints.{Fingerprint}
use Rattle.sshkey_model.specs.Keys.{Plain}
use Rattle.sshkey_model.specs.Names.{Sha256}
use Rattle.sshkey_model.specs.Principals.{IsValidFor}
use Rattle.sshkey_model.specs.Refusals.{Refusal, first_refusal, first_refusal_for}
use Rattle.sshkey_model.specs.Validity.{IsValid}
use Rattle.sshkey_model.specs.Verification.{Question}
use Rattle.sshkey_base.specs.declared.error.Error.{Error}
use Rattle.sshkey_cert.specs.Validity.{certificate_question, refusal_of}
use Rattle.sshkey_cert.specs.declared.certificate.refusal.CertificateRefusal.{CertificateRefusal}
use Rattle.sshkey_calls.specs.Numbers.{refusal_status}
use Rattle.sshkey_calls.specs.declared.digest.Sha256Digest.{Sha256Digest}

-- 1 says yes, and every other number no
abbrev pub is_yes_number : ℕ → Bool
is_yes_number is_verified = is_verified == 1

-- That verifier says so about the question of the certificate that the bytes spell, if it raises
-- one, and may say anything about all others.
abbrev pub Verified : (Question → Bool) → List ℕ → ℕ → Type 0
Verified accepts bytes is_verified = (c : Certificate) → SpellsCertificate c bytes → (q : Question) → certificate_question c ≡ Some q → accepts q ≡ is_yes_number is_verified

-- the fingerprints with these digests
abbrev pub authorities_of : List Sha256Digest → List Fingerprint
authorities_of digests = map (λ d. record { hash = Sha256; digest = d.bytes }) digests

-- The bytes spell a certificate that is valid.
pub record IsGoodCertificate (accepts : Question → Bool) (authorities : List Fingerprint) (t : ℕ) (bytes : List ℕ) : Type 0 where
  pub certificate : Certificate
  pub spelled : SpellsCertificate certificate bytes
  pub valid : IsValid accepts authorities t certificate

-- The bytes spell a certificate that is valid for the principal.
pub record IsGoodCertificateFor (accepts : Question → Bool) (authorities : List Fingerprint) (t : ℕ) (principal bytes : List ℕ) : Type 0 where
  pub certificate : Certificate
  pub spelled : SpellsCertificate certificate bytes
  pub valid : IsValidFor accepts authorities t principal certificate

-- 0 exactly where it holds; 1 is memory, and says nothing.
pub record SaysWhether (Holds : Type 0) (n : ℕ) : Type 0 where
  pub yes_ : n ≡ 0 → Holds
  pub no_ : n ≢ 0 → n ≢ 1 → Holds → ⊥

-- The number is that of the refusal of the certificate that the bytes spell, memory aside.
abbrev pub TellsRefusal : (Certificate → Option Refusal) → List ℕ → ℕ → Type 0
TellsRefusal refusal bytes n = (c : Certificate) → SpellsCertificate c bytes → n ≢ 1 → n ≡ refusal_status (refusal c)

-- It is the first refusal.
abbrev pub TellsFirst : (Question → Bool) → List Fingerprint → ℕ → List ℕ → ℕ → Type 0
TellsFirst accepts authorities t = TellsRefusal (first_refusal accepts authorities t)

-- The same for a principal.
abbrev pub TellsFirstFor : (Question → Bool) → List Fingerprint → ℕ → List ℕ → List ℕ → ℕ → Type 0
TellsFirstFor accepts authorities t principal = TellsRefusal (first_refusal_for accepts authorities t principal)

-- the first refusal, for the principal if there is one
abbrev pub first_refusal_of : (Question → Bool) → List Fingerprint → ℕ → Option (List ℕ) → Certificate → Option Refusal
first_refusal_of accepts authorities t None = first_refusal accepts authorities t
first_refusal_of accepts authorities t (Some principal) = first_refusal_for accepts authorities t principal

-- It is that refusal, or none; or memory ran out, which may be asked for.
abbrev pub FindsRefusalOr : Type 0 → Option Refusal → Result (Option CertificateRefusal) Error → Type 0
FindsRefusalOr asks first (Ok found) = option_map refusal_of found ≡ first
FindsRefusalOr asks first (Err e) = asks

-- The bytes spell a certificate in which the name of the key that signed is not the one of its
-- normal form: it is an RSA key under the name of one with a hash.
abbrev pub HasRenamedAuthority : List ℕ → Type 0
HasRenamedAuthority bytes = (c : Certificate) × (spelled : SpellsCertificate c bytes) × (spelled.choices.signature_key ≢ Plain)
