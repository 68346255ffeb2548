-- What is answered about a host, and why it is refused.
use Rattle.std.specs.Prelude.{◌≡◌, ◌≢◌, ◌⊎◌, ◌<◌, length, ℕ, List, Bool, true, false, IsTrue, Result, Ok, Err, if◌then◌else◌}
use Rattle.openssh_limits.specs.Limits.{openssh_accepts_key}
use Rattle.sshkey_matching.specs.AskedHosts.{IsHostFault}
use Rattle.sshkey_matching.specs.declared.host.HostFault.{HostFault}
use Rattle.sshkey_matching.specs.declared.host.HostFault.TheVariants as fault
use Rattle.sshkey_base.specs.Reading.{NoSpelling}
use Rattle.sshkey_cert.specs.Validity.{IsSigned}
use Rattle.sshkey_cert.specs.declared.certificate.refusal.CertificateRefusal.TheVariants.{Signature}
use Rattle.sshkey_cert.specs.Certificates.{IsFaultOf}
use Rattle.sshkey_krl.specs.Revocation.{CertificateIdentity}
use Rattle.sshkey_krl.specs.Revocations.{is_certificate_revoked, is_key_revoked}
use Rattle.sshkey_model.specs.Certificates.{Certificate, normal_certificate, SpellsCertificate}
use Rattle.sshkey_model.specs.Keys.{Key}
use Rattle.sshkey_model.specs.Parts.{flat}
use Rattle.sshkey_model.specs.Verification.{Question}
use Rattle.sshkey_base.specs.declared.error.Error.{Error}
use Rattle.sshkey_base.specs.declared.error.Error.TheVariants.{Memory}
use Rattle.sshkey_known_hosts.specs.declared.verdict.Verdict.{Verdict}
use Rattle.sshkey_known_hosts.specs.declared.verdict.Verdict.TheVariants.{Changed, Revoked, Trusted, Unknown, Unreadable}
use Rattle.host_keys.specs.Hosts.{HostCheck, IsBadFor, IsRead, IsSaidOfKey, IsSaidOfSigned, IsTrustedKey, IsUnread, OfAsked, are_accepted, plain_name}
use Rattle.host_keys.specs.declared.known_by.KnownBy.{KnownBy}
use Rattle.host_keys.specs.declared.refusal.HostRefusal.{HostRefusal}
use Rattle.host_keys.specs.declared.refusal.HostRefusal.TheVariants as refusal

-- Out of memory aside, Ok exactly if this holds.
abbrev pub OkExactly : Type 0 → Result Unit HostRefusal → Type 0
OkExactly Holds (Ok x) = Holds
OkExactly Holds (Err e) = e ≢ refusal.Memory → Holds → ⊥

-- Out of memory aside, Ok of that by which exactly the host is known.
abbrev pub KnownExactly : (KnownBy → Type 0) → Result KnownBy HostRefusal → Type 0
KnownExactly Holds (Ok by) = Holds by
KnownExactly Holds (Err e) = e ≢ refusal.Memory → (by : KnownBy) → Holds by → ⊥

-- Memory was refused only where what is shown or the host's name needs some, there is a line to be
-- judged, or somebody says what is revoked.
abbrev pub AsksOf : {X : Type 0} → Type 0 → Bool → List (List ℕ) → Result X HostRefusal → Type 0
AsksOf Needs revokes_none lines (Ok x) = Unit {0}
AsksOf Needs revokes_none lines (Err e) = e ≡ refusal.Memory → Needs ⊎ (0 < length lines) ⊎ (revokes_none ≡ false)

-- The refusal is that of a certificate for the error, or memory ran out.
abbrev pub IsRefusalFor : Error → HostRefusal → Type 0
IsRefusalFor e r = ((e ≡ Memory) × (r ≡ refusal.Memory)) ⊎ ((e ≢ Memory) × (r ≡ refusal.Certificate e))

-- and that of a host for what is wrong with it
abbrev pub IsRefusalForHost : HostFault → HostRefusal → Type 0
IsRefusalForHost f r = ((f ≡ fault.Memory) × (r ≡ refusal.Memory)) ⊎ ((f ≢ fault.Memory) × (r ≡ refusal.Host f))

-- Nothing can be asked about the host, for that fault; or it is asked, and refused for that reason.
abbrev pub RefusesAsked : HostCheck → (HostCheck → HostRefusal → Type 0) → HostRefusal → Type 0
RefusesAsked login Why r = ((f : HostFault) × IsHostFault login.host login.port f × IsRefusalForHost f r) ⊎ OfAsked login (λ asked. Why asked r)

-- what follows from a verdict
abbrev pub verdict_answer : Verdict → Result Unit HostRefusal
verdict_answer Trusted = Ok tt
verdict_answer Revoked = Err refusal.Revoked
verdict_answer Unreadable = Err refusal.Unreadable
verdict_answer Changed = Err refusal.Changed
verdict_answer Unknown = Err refusal.Unknown

-- and from whether something is revoked, which comes first
abbrev pub answer_of : {E F : Type 0} → Result Bool E → Result Verdict F → Result Unit HostRefusal
answer_of (Ok true) said = Err refusal.Revoked
answer_of (Ok false) (Ok v) = verdict_answer v
answer_of (Ok false) (Err e) = Err refusal.Memory
answer_of (Err e) said = Err refusal.Memory

-- It is revoked, or that is said. Or it is not revoked, and that is said; or the host is trusted so
-- far, and a key is not accepted; or they are, and the certificate is bad for that reason; or memory
-- ran out.
abbrev pub IsWhy : (Verdict → Type 0) → Bool → Bool → (HostRefusal → Type 0) → HostRefusal → Type 0
IsWhy Said revoked accepted Bad refusal.Revoked = (revoked ≡ true) ⊎ Said Revoked
IsWhy Said revoked accepted Bad refusal.Unreadable = (revoked ≡ false) × Said Unreadable
IsWhy Said revoked accepted Bad refusal.Changed = (revoked ≡ false) × Said Changed
IsWhy Said revoked accepted Bad refusal.Unknown = (revoked ≡ false) × Said Unknown
IsWhy Said revoked accepted Bad refusal.UnacceptedKey = (revoked ≡ false) × Said Trusted × (accepted ≡ false)
IsWhy Said revoked accepted Bad (refusal.Certificate e) = (revoked ≡ false) × Said Trusted × IsTrue accepted × Bad (refusal.Certificate e)
IsWhy Said revoked accepted Bad (refusal.Invalid first) = (revoked ≡ false) × Said Trusted × IsTrue accepted × Bad (refusal.Invalid first)
IsWhy Said revoked accepted Bad refusal.NotNormalForm = ⊥
IsWhy Said revoked accepted Bad (refusal.Host f) = ⊥
IsWhy Said revoked accepted Bad refusal.Memory = Unit {0}

abbrev pub IsWhyNoKey : HostCheck → (List ℕ → Bool) → Key → HostRefusal → Type 0
IsWhyNoKey login revokes_key key = IsWhy (IsSaidOfKey login.hmac login.host login.port key login.lines) (is_key_revoked revokes_key key) (openssh_accepts_key login.least_rsa_bits key) (λ r. ⊥)

abbrev pub RefusesHostKey : HostCheck → (List ℕ → Bool) → Key → HostRefusal → Type 0
RefusesHostKey login revokes_key key = RefusesAsked login (λ asked. IsWhyNoKey asked revokes_key key)

abbrev pub IsWhyNoCertificate : HostCheck → (Question → Bool) → (List ℕ → CertificateIdentity → Bool) → Certificate → HostRefusal → Type 0
IsWhyNoCertificate login accepts revokes c = IsWhy (IsSaidOfSigned login.hmac login.host login.port c.signed.key c.signed.signature_key login.lines) (is_certificate_revoked revokes c) (are_accepted login.least_rsa_bits c.signed.key c.signed.signature_key) (IsBadFor accepts login.time (plain_name login.host) c)

-- Why the certified key is not the host's: the first of these; or memory ran out.
pub data IsWhyNoCertifiedKey (login : HostCheck) (accepts : Question → Bool) (revokes_key : List ℕ → Bool) (c : Certificate) : HostRefusal → Type 0 where
  NotRead : (r : HostRefusal) → IsUnread c r → IsWhyNoCertifiedKey login accepts revokes_key c r
  OtherKey : IsRead c → (r : HostRefusal) → IsWhyNoKey login revokes_key c.signed.key r → IsWhyNoCertifiedKey login accepts revokes_key c r
  Unsigned : IsRead c → IsTrustedKey login revokes_key c.signed.key → (IsSigned accepts c → ⊥) → IsWhyNoCertifiedKey login accepts revokes_key c (refusal.Invalid Signature)
  NoMemory : IsWhyNoCertifiedKey login accepts revokes_key c refusal.Memory

-- after which the certified key is not asked
abbrev pub is_final : HostRefusal → Bool
is_final refusal.Revoked = true
is_final refusal.Unreadable = true
is_final refusal.Memory = true
is_final r = false

-- for memory, or because nobody verified the signature and all else is right
abbrev pub comes_first : HostRefusal → Bool
comes_first refusal.Memory = true
comes_first (refusal.Invalid Signature) = true
comes_first r = false

-- Of a certificate that is refused, and then of its key, for these two reasons: the key's, where it
-- comes first, or the authority is unknown.
abbrev pub of_both : HostRefusal → HostRefusal → HostRefusal
of_both refusal.Unknown why = why
of_both first why = if comes_first why then why else first

-- The certificate is refused for the first reason, and that is the last; or its key is refused too.
pub record IsWhyUnknown (login : HostCheck) (accepts : Question → Bool) (revokes : List ℕ → CertificateIdentity → Bool) (revokes_key : List ℕ → Bool) (c : Certificate) (r : HostRefusal) : Type 0 where
  pub first : HostRefusal
  pub certificate : IsWhyNoCertificate login accepts revokes c first
  pub key : ((is_final first ≡ true) × (r ≡ first)) ⊎ ((is_final first ≡ false) × ((why : HostRefusal) × IsWhyNoCertifiedKey login accepts revokes_key c why × (r ≡ of_both first why)))

-- The bytes spell no certificate, and have that fault. Or they spell one: they are not its normal
-- form; or they are, and nothing can be asked about the host, or it is refused.
abbrev pub RefusesHostCertificate : HostCheck → (Question → Bool) → (List ℕ → CertificateIdentity → Bool) → (List ℕ → Bool) → List ℕ → HostRefusal → Type 0
RefusesHostCertificate login accepts revokes revokes_key blob r = (NoSpelling SpellsCertificate blob × ((e : Error) × IsFaultOf blob e × IsRefusalFor e r)) ⊎ ((c : Certificate) × SpellsCertificate c blob × (((blob ≢ flat (normal_certificate c)) × (r ≡ refusal.NotNormalForm)) ⊎ ((blob ≡ flat (normal_certificate c)) × RefusesAsked login (λ asked. IsWhyUnknown asked accepts revokes revokes_key c) r)))
