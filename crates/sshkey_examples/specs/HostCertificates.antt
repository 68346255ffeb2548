-- What whoever connects to a host learns.
use Rattle.std.specs.Prelude.{◌≡◌, ◌≢◌, ◌⊎◌, ℕ, List, [], Bool, Some, IsErrAnd, option_map}
use Rattle.ssh_key.specs.base.Causes.{Faulty, cause}
use Rattle.ssh_key.specs.cert.Validity.{refusal_error}
use Rattle.ssh_key.specs.model.Certificates.{Certificate, Host, certificate_at, SpellsCertificate}
use Rattle.ssh_key.specs.model.Fingerprints.{Fingerprint}
use Rattle.ssh_key.specs.model.Principals.{IsValidFor}
use Rattle.ssh_key.specs.model.Reading.{whole}
use Rattle.ssh_key.specs.model.Refusals.{first_refusal_for}
use Rattle.ssh_key.specs.model.Verification.{Question}
use Rattle.ssh_key.specs.types.Error.{Error}
use Rattle.ssh_key.specs.types.Error.TheVariants.{CertificateFieldInvalid}
use Rattle.ssh_key.specs.types.certificate.Field.TheVariants as field

-- The certificate is for hosts, without critical options, and lists a principal. (ssh(1) takes none
-- for nobody since 10.3.)
pub record IsPlainForHosts (c : Certificate) : Type 0 where
  pub for_hosts : c.signed.certificate_type ≡ Host
  pub no_options : c.signed.critical_options ≡ []
  pub some_principal : c.signed.valid_principals ≢ []

-- It is that, and valid at that time for the host.
pub record CertifiesHost (accepts : Question → Bool) (authorities : List Fingerprint) (t : ℕ) (host : List ℕ) (c : Certificate) : Type 0 where
  pub plain : IsPlainForHosts c
  pub valid : IsValidFor accepts authorities t host c

-- The bytes spell such a certificate.
pub record IsCertifiedHost (accepts : Question → Bool) (authorities : List Fingerprint) (t : ℕ) (shown host : List ℕ) : Type 0 where
  pub certificate : Certificate
  pub spelled : SpellsCertificate certificate shown
  pub certifies : CertifiesHost accepts authorities t host certificate

-- ---- why it is refused

-- What is wrong with the certificate first: it is for users, it has critical options, it lists no
-- principals, or it is not valid at that time for the host.
pub data IsBadFor (accepts : Question → Bool) (authorities : List Fingerprint) (t : ℕ) (host : List ℕ) (c : Certificate) : Error → Type 0 where
  ForUsers : c.signed.certificate_type ≢ Host → IsBadFor accepts authorities t host c (CertificateFieldInvalid field.CertType)
  SomeOption : c.signed.certificate_type ≡ Host → c.signed.critical_options ≢ [] → IsBadFor accepts authorities t host c (CertificateFieldInvalid field.CriticalOptions)
  NoPrincipal : c.signed.certificate_type ≡ Host → c.signed.critical_options ≡ [] → c.signed.valid_principals ≡ [] → IsBadFor accepts authorities t host c (CertificateFieldInvalid field.ValidPrincipals)
  NotValid : IsPlainForHosts c → (e : Error) → option_map refusal_error (first_refusal_for accepts authorities t host c) ≡ Some e → IsBadFor accepts authorities t host c e

-- The bytes spell no certificate, and have that fault first, from the left; or they spell one that
-- is bad.
abbrev pub IsWhyNot : (Question → Bool) → List Fingerprint → ℕ → List ℕ → List ℕ → Error → Type 0
IsWhyNot accepts authorities t shown host e = IsErrAnd (whole certificate_at shown) (λ fault. cause e ≡ Faulty fault) ⊎ ((c : Certificate) × SpellsCertificate c shown × IsBadFor accepts authorities t host c e)

-- The bytes spell a certificate that is judged by its signature.
abbrev pub NeedsMemory : List ℕ → Type 0
NeedsMemory shown = (c : Certificate) × SpellsCertificate c shown × IsPlainForHosts c
