-- When a key or a certificate is a host's, by the lines of known_hosts and by who says what is
-- revoked (ssh(1), "VERIFYING HOST KEYS"; sshd(8), "SSH_KNOWN_HOSTS FILE FORMAT"; ssh_config(5),
-- RevokedHostKeys; PROTOCOL.certkeys).
use denote.Ref.{Bor}
use Rattle.openssh_limits.specs.Limits.{openssh_accepts_key, AreReadPrincipals}
use Rattle.std.specs.List.{flat_map}
use Rattle.std.specs.Prelude.{◌≡◌, ◌≢◌, ◌⊎◌, ℕ, List, [], ◌∷◌, Bool, ◌&&◌, false, IsTrue, Some, ◌++◌}
use Rattle.sshkey_matching.specs.AskedHosts.{IsAsked, IsHostFault}
use Rattle.sshkey_cert.specs.Validity.{IsSigned, refusal_of}
use Rattle.sshkey_entries.specs.Fields.{filled_lines}
use Rattle.sshkey_entries.specs.HostVerdicts.{known_name, standard_port, HidesSome, IsAuthority, IsRevoked}
use Rattle.sshkey_known_hosts.specs.Verdicts.{IsVerdict}
use Rattle.sshkey_krl.specs.Revocation.{CertificateIdentity}
use Rattle.sshkey_krl.specs.Revocations.{is_certificate_revoked, is_key_revoked}
use Rattle.sshkey_model.specs.Certificates.{Certificate, Host, normal_certificate, SpellsCertificate}
use Rattle.sshkey_model.specs.Fingerprints.{Fingerprint, fingerprint}
use Rattle.sshkey_model.specs.Keys.{Key}
use Rattle.sshkey_model.specs.Lines.{IsWithout}
use Rattle.sshkey_model.specs.Names.{Sha256}
use Rattle.sshkey_model.specs.Parts.{flat}
use Rattle.sshkey_model.specs.Principals.{IsValidFor}
use Rattle.sshkey_model.specs.Refusals.{first_refusal_for}
use Rattle.sshkey_model.specs.Verification.{Question}
use Rattle.sshkey_base.specs.declared.error.Error.{Error}
use Rattle.sshkey_base.specs.declared.error.Error.TheVariants.{CertificateFieldInvalid}
use Rattle.sshkey_base.specs.declared.certificate.field.Field.TheVariants as field
use Rattle.sshkey_known_hosts.specs.declared.verdict.Verdict.{Verdict}
use Rattle.sshkey_known_hosts.specs.declared.verdict.Verdict.TheVariants.{Changed, Revoked, Trusted, Unknown, Unreadable}
use Rattle.host_keys.specs.declared.host_check.HostCheck as code
use Rattle.host_keys.specs.declared.known_by.KnownBy.{KnownBy}
use Rattle.host_keys.specs.declared.known_by.KnownBy.TheVariants.{Authority, CertifiedKey}
use Rattle.host_keys.specs.declared.refusal.HostRefusal.{HostRefusal}
use Rattle.host_keys.specs.declared.refusal.HostRefusal.TheVariants as refusal
use Rattle.sshkey_matching.specs.declared.host.HostFault.TheVariants as fault
use Rattle.sshkey_known_hosts.specs.HeldLines.{held_lines, SaySame}
use Rattle.sshkey_known_hosts.specs.declared.held_line.HeldLine.{HeldLine}

-- ---- the lines

-- the lines of all the texts, in order, without empty lines and comments
abbrev pub lines_of : List (Bor (List ℕ)) → List (List ℕ)
lines_of texts = flat_map (λ text. filled_lines text.now) texts

-- The host that a client connects to, and what is known of it: an HMAC-SHA1, the lines of
-- known_hosts, the host's name and port, the time, and how many bits an RSA key has at least.
pub record HostCheck : Type 0 where
  pub hmac : List ℕ → List ℕ → List ℕ
  pub lines : List (List ℕ)
  pub host : List ℕ
  pub port : ℕ
  pub time : ℕ
  pub least_rsa_bits : ℕ

-- that of a call
abbrev pub login_of : code.HostCheck → (List ℕ → List ℕ → List ℕ) → HostCheck
login_of l hmac = record { hmac = hmac; lines = lines_of l.texts.now; host = l.host.now; port = l.port; time = l.unix_timestamp; least_rsa_bits = l.least_rsa_bits }

-- ---- names

-- There is a name that is asked about, of an address its canonical text, and this holds of the host
-- under it.
pub record OfAsked (login : HostCheck) (Holds : HostCheck → Type 0) : Type 0 where
  pub name : List ℕ
  pub asked : IsAsked login.host login.port name
  pub holds : Holds (record login { host = name })

-- the name for which the certificate of a host is asked, at whatever port: in small letters
abbrev pub plain_name : List ℕ → List ℕ
plain_name host = known_name host standard_port

-- ---- what is said

-- Something is said of the host at that port, or there is no other name to ask about.
abbrev pub IsSettled : Verdict → ℕ → Type 0
IsSettled v port = (port ≡ standard_port) ⊎ (v ≢ Unknown)

-- It is said of the host at that port. Where nothing is, it is what is said of the host's plain
-- name.
abbrev pub IsSaid : (List ℕ → Verdict → Type 0) → List ℕ → ℕ → Verdict → Type 0
IsSaid Says host port v = ((v ≢ Unknown) × Says (known_name host port) v) ⊎ (Says (known_name host port) Unknown × Says (plain_name host) v)

abbrev pub IsSaidOfKey : (List ℕ → List ℕ → List ℕ) → List ℕ → ℕ → Key → List (List ℕ) → Verdict → Type 0
IsSaidOfKey hmac host port key lines = IsSaid (λ name. IsVerdict hmac name key lines) host port

-- A line revokes the key, or the key that signed it.
abbrev pub IsEitherRevoked : (List ℕ → List ℕ → List ℕ) → List ℕ → Key → Key → List (List ℕ) → Type 0
IsEitherRevoked hmac name key signer lines = IsRevoked hmac name key lines ⊎ IsRevoked hmac name signer lines

-- Of a key that another signed, the first of these that holds: a line revokes one of them; one may
-- be hidden; the signer is an authority; it is not.
abbrev pub IsVerdictOfSigned : (List ℕ → List ℕ → List ℕ) → List ℕ → Key → Key → List (List ℕ) → Verdict → Type 0
IsVerdictOfSigned hmac name key signer lines Revoked = IsEitherRevoked hmac name key signer lines
IsVerdictOfSigned hmac name key signer lines Unreadable = ¬ IsEitherRevoked hmac name key signer lines × HidesSome hmac name lines
IsVerdictOfSigned hmac name key signer lines Trusted = ¬ IsEitherRevoked hmac name key signer lines × ¬ HidesSome hmac name lines × IsAuthority hmac name signer lines
IsVerdictOfSigned hmac name key signer lines Unknown = ¬ IsEitherRevoked hmac name key signer lines × ¬ HidesSome hmac name lines × ¬ IsAuthority hmac name signer lines
IsVerdictOfSigned hmac name key signer lines Changed = ⊥

abbrev pub IsSaidOfSigned : (List ℕ → List ℕ → List ℕ) → List ℕ → ℕ → Key → Key → List (List ℕ) → Verdict → Type 0
IsSaidOfSigned hmac host port key signer lines = IsSaid (λ name. IsVerdictOfSigned hmac name key signer lines) host port

-- ---- what is trusted

-- the fingerprint of the key that signed
abbrev pub signers : Certificate → List Fingerprint
signers c = fingerprint Sha256 c.signed.signature_key ∷ []

-- There are some principals, and ssh(1) reads them. (It takes none for nobody since 10.3.)
pub record AreForHosts (names : List (List ℕ)) : Type 0 where
  pub some : names ≢ []
  pub read : AreReadPrincipals names

-- It is for hosts, without critical options, and has texts that ssh(1) reads.
pub record HasHostFields (c : Certificate) : Type 0 where
  pub for_hosts : c.signed.certificate_type ≡ Host
  pub no_options : c.signed.critical_options ≡ []
  pub key_id : IsWithout 0 c.signed.key_id
  pub principals : AreForHosts c.signed.valid_principals

-- For whoever trusts the key that signed, the certificate is good for the host at that time: it has
-- the fields of one for hosts, and is valid for the host's name.
pub record IsGoodFor (accepts : Question → Bool) (t : ℕ) (host : List ℕ) (c : Certificate) : Type 0 where
  pub fields : HasHostFields c
  pub valid : IsValidFor accepts (signers c) t host c

-- ssh accepts the host's key, of at least that size, and the key that signs for it, of any size by
-- which it verifies (ssh_config(5), RequiredRSASize and CASignatureAlgorithms).
abbrev pub are_accepted : ℕ → Key → Key → Bool
are_accepted least_rsa_bits key authority = openssh_accepts_key least_rsa_bits key && openssh_accepts_key 0 authority

-- The key is the host's by the name that is asked, and ssh accepts it.
pub record IsTrustedKey (login : HostCheck) (revokes_key : List ℕ → Bool) (key : Key) : Type 0 where
  pub listed : IsSaidOfKey login.hmac login.host login.port key login.lines Trusted
  pub unrevoked : is_key_revoked revokes_key key ≡ false
  pub accepted : IsTrue (openssh_accepts_key login.least_rsa_bits key)

abbrev pub IsHostKey : HostCheck → (List ℕ → Bool) → Key → Type 0
IsHostKey login revokes_key key = OfAsked login (λ asked. IsTrustedKey asked revokes_key key)

-- The certificate is the host's by the name that is asked: by an authority of the host, not revoked,
-- with keys that ssh accepts, and good for the host.
pub record IsTrustedCertificate (login : HostCheck) (accepts : Question → Bool) (revokes : List ℕ → CertificateIdentity → Bool) (c : Certificate) : Type 0 where
  pub trusted_by : IsSaidOfSigned login.hmac login.host login.port c.signed.key c.signed.signature_key login.lines Trusted
  pub unrevoked : is_certificate_revoked revokes c ≡ false
  pub accepted : IsTrue (are_accepted login.least_rsa_bits c.signed.key c.signed.signature_key)
  pub good : IsGoodFor accepts login.time (plain_name login.host) c

-- ssh(1) reads the certificate at all: it accepts the key that signed, and reads the texts (sshkey.c,
-- cert_parse).
pub record IsRead (c : Certificate) : Type 0 where
  pub signer : IsTrue (openssh_accepts_key 0 c.signed.signature_key)
  pub key_id : IsWithout 0 c.signed.key_id
  pub principals : AreReadPrincipals c.signed.valid_principals

-- The certified key is the host's as one that no authority signed, and the certificate is one that
-- ssh reads, and signed by whomever.
pub record HasTrustedKey (login : HostCheck) (accepts : Question → Bool) (revokes_key : List ℕ → Bool) (c : Certificate) : Type 0 where
  pub read : IsRead c
  pub key : IsTrustedKey login revokes_key c.signed.key
  pub signed : IsSigned accepts c

-- The certificate is not the host's by the name that is asked, though nobody revokes it, no line
-- revokes one of its keys, and none is hidden; and its key is the host's (sshconnect.c,
-- check_host_key).
pub record IsTrustedByKey (login : HostCheck) (accepts : Question → Bool) (revokes : List ℕ → CertificateIdentity → Bool) (revokes_key : List ℕ → Bool) (c : Certificate) : Type 0 where
  pub refused : ¬ IsTrustedCertificate login accepts revokes c
  pub unrevoked : is_certificate_revoked revokes c ≡ false
  pub no_line : ¬ IsSaidOfSigned login.hmac login.host login.port c.signed.key c.signed.signature_key login.lines Revoked
  pub none_hidden : ¬ IsSaidOfSigned login.hmac login.host login.port c.signed.key c.signed.signature_key login.lines Unreadable
  pub key : HasTrustedKey login accepts revokes_key c

-- the host is known by its authority, or by the certified key
abbrev pub IsKnownBy : HostCheck → (Question → Bool) → (List ℕ → CertificateIdentity → Bool) → (List ℕ → Bool) → Certificate → KnownBy → Type 0
IsKnownBy login accepts revokes revokes_key c Authority = IsTrustedCertificate login accepts revokes c
IsKnownBy login accepts revokes revokes_key c CertifiedKey = IsTrustedByKey login accepts revokes revokes_key c

-- The bytes are those of a certificate, in its normal form, by which the host is known so.
pub record IsHostCertificate (login : HostCheck) (accepts : Question → Bool) (revokes : List ℕ → CertificateIdentity → Bool) (revokes_key : List ℕ → Bool) (blob : List ℕ) (by : KnownBy) : Type 0 where
  pub certificate : Certificate
  pub spelled : SpellsCertificate certificate blob
  pub normal : blob ≡ flat (normal_certificate certificate)
  pub trusted : OfAsked login (λ asked. IsKnownBy asked accepts revokes revokes_key certificate by)

-- ---- what is wrong with a certificate first

-- a field that none for hosts has
pub data HasOtherField (c : Certificate) : Error → Type 0 where
  ForUsers : c.signed.certificate_type ≢ Host → HasOtherField c (CertificateFieldInvalid field.CertType)
  SomeOption : c.signed.certificate_type ≡ Host → c.signed.critical_options ≢ [] → HasOtherField c (CertificateFieldInvalid field.CriticalOptions)
  OtherKeyId : c.signed.certificate_type ≡ Host → c.signed.critical_options ≡ [] → (IsWithout 0 c.signed.key_id → ⊥) → HasOtherField c (CertificateFieldInvalid field.KeyId)
  OtherPrincipals : c.signed.certificate_type ≡ Host → c.signed.critical_options ≡ [] → IsWithout 0 c.signed.key_id → (AreForHosts c.signed.valid_principals → ⊥) → HasOtherField c (CertificateFieldInvalid field.ValidPrincipals)

-- such a field; or, with the fields of one for hosts, what makes it not valid first
abbrev pub IsBadFor : (Question → Bool) → ℕ → List ℕ → Certificate → HostRefusal → Type 0
IsBadFor accepts t host c (refusal.Certificate e) = HasOtherField c e
IsBadFor accepts t host c (refusal.Invalid first) = HasHostFields c × (first_refusal_for accepts (signers c) t host c ≡ Some (refusal_of first))
IsBadFor accepts t host c r = ⊥

-- ---- what is wrong with its key first

-- why ssh does not read the certificate
pub data IsUnread (c : Certificate) : HostRefusal → Type 0 where
  OtherSigner : openssh_accepts_key 0 c.signed.signature_key ≡ false → IsUnread c refusal.UnacceptedKey
  OddKeyId : IsTrue (openssh_accepts_key 0 c.signed.signature_key) → (IsWithout 0 c.signed.key_id → ⊥) → IsUnread c (refusal.Certificate (CertificateFieldInvalid field.KeyId))
  OddPrincipals : IsTrue (openssh_accepts_key 0 c.signed.signature_key) → IsWithout 0 c.signed.key_id → (AreReadPrincipals c.signed.valid_principals → ⊥) → IsUnread c (refusal.Certificate (CertificateFieldInvalid field.ValidPrincipals))

-- A host by lines of known_hosts that are held, beside those of its texts.

abbrev pub held_login : code.HostCheck → List HeldLine → (List ℕ → List ℕ → List ℕ) → HostCheck
held_login l held hmac = record (login_of l hmac) { lines = held_lines held ++ lines_of l.texts.now }

-- Under each name by which the host is asked, these lines say the same as its own.
abbrev pub SayTheSame : HostCheck → List (List ℕ) → Type 0
SayTheSame login lines = (name : List ℕ) → IsAsked login.host login.port name → SaySame login.hmac (known_name name login.port) login.lines lines × SaySame login.hmac (plain_name name) login.lines lines

-- Memory ran out, for the name under which the host is asked or after that.
abbrev pub RanOut : code.HostCheck → HostRefusal → Type 0
RanOut l r = (r ≡ refusal.Memory) × (IsHostFault l.host.now l.port fault.Memory ⊎ ((name : List ℕ) × IsAsked l.host.now l.port name))
