-- What a key revocation list says of a key or of a certificate, and the number that tells it.
use Rattle.std.proofs.Common.{◌≡◌, ◌≢◌, ◌<◌, ℕ, List, Bool, refl, arith, subst}
use Rattle.sshkey_base.specs.Judgements.{SpellsSome}
use Rattle.sshkey_base.specs.Causes.{Cause, Faulty, NoMemory, Other}
use Rattle.sshkey_keys_ref.specs.KeyBytes.{IsRenamed}
use Rattle.sshkey_krl.specs.Revocation.{Krl, certificate_identity, revokes, revokes_certificate}
use Rattle.sshkey_model.specs.Certificates.{Certificate}
use Rattle.sshkey_model.specs.Keys.{normal_key, SpellsKey}
use Rattle.sshkey_model.specs.Parts.{flat}
use Rattle.sshkey_calls.specs.Writing.{IsRenamedKey}
use Rattle.sshkey_calls.specs.Revocations.{TellsRevoked}

-- the number of an error is far below those that say something
below : (of_error : Cause) (n : ℕ) → (of_error ≢ NoMemory → (9 < n) × (n < 30)) → (of_error ≡ NoMemory → n ≡ 1) → n < 30
below NoMemory n range memory = let one = memory refl in omega (arith, one)
below (Faulty fault) n range memory = (range (λ e. cc e)).1
below Other n range memory = (range (λ e. cc e)).1

-- nothing is said
pub none_told : (Said : Bool → Type 0) (of_error : Cause) (n : ℕ) → n ≢ 0 → (of_error ≢ NoMemory → (9 < n) × (n < 30)) → (of_error ≡ NoMemory → n ≡ 1) → (of_error ≢ NoMemory → (yes : Bool) → Said yes → ⊥) → TellsRevoked Said n
none_told Said of_error n some range memory none = record {
  not_revoked = λ zero_. absurd (some zero_);
  revoked = λ is. let less = below of_error n range memory in absurd (omega (arith, is, less));
  others = λ _ _ not_one. none (λ out. not_one (memory out));
}

-- the key that was read is asked about under another name than its own
pub renamed_key : (own bytes : List ℕ) → own ≡ bytes → SpellsSome SpellsKey bytes → IsRenamed own → IsRenamedKey bytes
renamed_key own bytes same some renamed = (some.0, some.1, (subst IsRenamed same renamed some.0 some.1).1)

-- the list is asked about the certificate
pub certificate_said : (l : Krl) (c : Certificate) (key signer key_id : List ℕ) (serial : ℕ) → key ≡ flat (normal_key c.signed.key) → signer ≡ flat (normal_key c.signed.signature_key) → serial ≡ c.signed.serial → key_id ≡ c.signed.key_id → revokes l key (certificate_identity signer serial key_id) ≡ revokes_certificate l c
certificate_said l c key signer key_id serial k s n i = rw (k, s, n, i) refl
