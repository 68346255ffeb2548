-- What is answered of a key revocation list (OpenSSH's PROTOCOL.krl).
use Rattle.std.specs.Prelude.{◌≡◌, ◌≢◌, ℕ, List, Bool, true, false}
use Rattle.sshkey_model.specs.Certificates.{SpellsCertificate}
use Rattle.sshkey_krl.specs.Krls.{SpellsKrl}
use Rattle.sshkey_krl.specs.Revocation.{Krl, revokes_certificate, revokes_key}
use Rattle.sshkey_model.specs.Keys.{normal_key, SpellsKey}
use Rattle.sshkey_model.specs.Parts.{flat}

-- The bytes spell a list and a value, and this is whether the list revokes the value.
pub record IsWhetherRevoked {V : Type 0} (Spells : V → List ℕ → Type 0) (revokes : Krl → V → Bool) (krl bytes : List ℕ) (yes : Bool) : Type 0 where
  pub list : Krl
  pub list_spelled : SpellsKrl list krl
  pub value : V
  pub value_spelled : Spells value bytes
  pub answer : yes ≡ revokes list value

abbrev pub IsWhetherKeyRevoked : List ℕ → List ℕ → Bool → Type 0
IsWhetherKeyRevoked = IsWhetherRevoked SpellsKey (λ list k. revokes_key list (flat (normal_key k)))

abbrev pub IsWhetherCertificateRevoked : List ℕ → List ℕ → Bool → Type 0
IsWhetherCertificateRevoked = IsWhetherRevoked SpellsCertificate revokes_certificate

-- 0 says that it is not revoked, and 56 that it is; 1 is memory, and every other number says that
-- nothing is said of it.
pub record TellsRevoked (Said : Bool → Type 0) (n : ℕ) : Type 0 where
  pub not_revoked : n ≡ 0 → Said false
  pub revoked : n ≡ 56 → Said true
  pub others : n ≢ 0 → n ≢ 56 → n ≢ 1 → (yes : Bool) → Said yes → ⊥
