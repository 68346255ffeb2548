-- The list of what an authority took back.
use Rattle.std.specs.Prelude.{◌≡◌, ◌⊎◌, ◌&&◌, ◌==◌, ℕ, List, Bool, false, bytes_eq}
use Rattle.std.specs.List.{list_any}
use Rattle.ssh_key.specs.krl.Revocation.{CertificateIdentity, Krl, Signer, revokes, revokes_key}
use Rattle.ssh_key.specs.krl.Krls.{is_read_signer}
use Rattle.ssh_key.specs.krl.Writing.{certificates_section, serials_part}
use Rattle.ssh_key.specs.model.Keys.{Key, normal_key}
use Rattle.ssh_key.specs.model.Parts.{BoxesFit, flat}
use Rattle.ssh_key.specs.types.Error.{Error}
use Rattle.ssh_key.specs.types.Error.TheVariants.{Encoding, FormatEncoding, Memory}
use Rattle.ssh_key.specs.types.encoding.Error.TheVariants as encoding

-- The list has that number and date.
abbrev pub IsStated : ℕ → ℕ → Krl → Type 0
IsStated number date k = (k.number ≡ number) × (k.date ≡ date)

-- The authority signed the certificate, and took its serial number back.
abbrev pub is_taken_back : Key → List ℕ → CertificateIdentity → Bool
is_taken_back authority serials identity = bytes_eq identity.signer (flat (normal_key authority)) && list_any (λ n. n == identity.serial) serials

-- The list revokes no key, and exactly the certificates that were taken back.
pub record TakesBack (authority : Key) (serials : List ℕ) (k : Krl) : Type 0 where
  pub keys : (key : List ℕ) → revokes_key k key ≡ false
  pub certificates : (key : List ℕ) (identity : CertificateIdentity) → revokes k key identity ≡ is_taken_back authority serials identity

-- OpenSSH does not read the key; or the key or the numbers are too long for a list, or memory ran
-- out.
abbrev pub RefusesToList : Key → List ℕ → Error → Type 0
RefusesToList authority serials e = ((is_read_signer authority ≡ false) × (e ≡ FormatEncoding)) ⊎ ((BoxesFit (certificates_section (Signer authority) (serials_part serials)) → ⊥) × (e ≡ Encoding encoding.Length)) ⊎ (e ≡ Memory)
