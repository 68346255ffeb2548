-- What takes a key or a certificate.
use Rattle.std.specs.Prelude.{◌≡◌, ◌≢◌, ◌⊎◌, ℕ, List, [], Bool, true, false, Result, Ok, Err, is_ok}
use Rattle.sshkey_model.specs.CertificateNames.{certificate_algorithm_at}
use Rattle.sshkey_model.specs.Reading.{whole}
use Rattle.sshkey_base.specs.Causes.{NoMemory, cause}
use Rattle.sshkey_base.specs.Reading.{IsRefused}
use Rattle.sshkey_base.specs.declared.error.Error.{Error}
use Rattle.sshkey_model.specs.Keys.{key_format, SpellsKey, key_data_at}
use Rattle.sshkey_keys.specs.Keys.{key_of}
use Rattle.sshkey_model.specs.Certificates.{certificate_format, SpellsCertificate}
use Rattle.sshkey_cert.specs.Certificates.{certificate_of, comment_of}
use Rattle.sshkey_cert.specs.declared.key_or_certificate.KeyOrCertificate.{KeyOrCertificate}
use Rattle.sshkey_cert.specs.declared.key_or_certificate.KeyOrCertificate.TheVariants as either

-- whether the bytes begin with the name of an algorithm in a certificate (PROTOCOL.certkeys)
abbrev pub names_certificate : List ℕ → Bool
names_certificate bytes = is_ok (certificate_algorithm_at bytes)

-- The bytes spell the certificate, which has no comment, or begin with no certificate's name and
-- spell the key.
abbrev pub SpellsEither : KeyOrCertificate → List ℕ → Type 0
SpellsEither (either.Key k) bytes = (names_certificate bytes ≡ false) × SpellsKey (key_of k) bytes
SpellsEither (either.Certificate c) bytes = SpellsCertificate (certificate_of c) bytes × (comment_of c ≡ [])

-- Out of memory aside, bytes are accepted exactly if they spell either.
abbrev pub AcceptsEither : List ℕ → Result KeyOrCertificate Error → Type 0
AcceptsEither bytes (Ok value) = SpellsEither value bytes
AcceptsEither bytes (Err e) = cause e ≢ NoMemory → (value : KeyOrCertificate) → SpellsEither value bytes → ⊥

-- The error is that of a certificate's reader or of a key's, as the name in front says.
pub data RefusesEither (bytes : List ℕ) (e : Error) : Type 0 where
  ByCertificate : names_certificate bytes ≡ true → IsRefused 0 (cause e) (whole certificate_format.read bytes) → RefusesEither bytes e
  ByKey : names_certificate bytes ≡ false → IsRefused 0 (cause e) (whole key_data_at bytes) → RefusesEither bytes e

-- Under a certificate's name the certificate needs memory, and else the key.
abbrev pub NeedsEither : List ℕ → ℕ → Type 0
NeedsEither bytes missing = ((names_certificate bytes ≡ true) × certificate_format.needs bytes missing) ⊎ ((names_certificate bytes ≡ false) × key_format.needs bytes missing)
