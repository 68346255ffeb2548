-- Worked examples of when a key or a certificate is a host's, on both sides of each edge: what is
-- trusted, and the same with one thing changed (ssh(1), "VERIFYING HOST KEYS"; ssh_config(5);
-- PROTOCOL.certkeys; sshconnect.c and sshkey.c of OpenSSH). ssh of 9.2 was asked.
use Rattle.std.specs.Prelude.{◌≡◌, ℕ, ◌-◌, ◌^◌, List, [], ◌∷◌, Bool, true, false, None, Some, Ok, Err, codes, replicate, bytes_eq, if◌then◌else◌}
use Rattle.sshkey_entries.specs.KnownHosts as known
use Rattle.sshkey_known_hosts.specs.Examples.{broken_line, by_line, host, line, other_line}
use Rattle.sshkey_known_hosts.specs.Hmac.{hmac_sha1}
use Rattle.sshkey_known_hosts.specs.declared.verdict.Verdict.{Verdict}
use Rattle.sshkey_known_hosts.specs.declared.verdict.Verdict.TheVariants.{Changed, Revoked, Trusted, Unknown, Unreadable}
use Rattle.sshkey_model.specs.CertificateExamples.{authority}
use Rattle.sshkey_model.specs.Certificates.{Certificate, Host, SignedFields, User, forever}
use Rattle.sshkey_model.specs.KeyExamples.{ed25519_key, rsa_key}
use Rattle.sshkey_model.specs.Keys.{Dsa, Key, Opaque, Rsa}
use Rattle.sshkey_model.specs.Names.{Algorithm}
use Rattle.sshkey_model.specs.Options.{CertificateOption}
use Rattle.sshkey_model.specs.Verification.{Question}
use Rattle.sshkey_base.specs.declared.certificate.field.Field.{Field}
use Rattle.sshkey_base.specs.declared.certificate.field.Field.TheVariants as field
use Rattle.sshkey_base.specs.declared.error.Error.TheVariants.{CertificateFieldInvalid}
use Rattle.sshkey_cert.specs.declared.certificate.refusal.CertificateRefusal.TheVariants.{Signature, Window}
use Rattle.host_keys.specs.Answers.{IsWhy, IsWhyNoCertifiedKey, IsWhyUnknown, KnownExactly, answer_of, is_final, of_both, verdict_answer}
use Rattle.host_keys.specs.declared.known_by.KnownBy.TheVariants.{Authority, CertifiedKey}
use Rattle.host_keys.specs.Hosts.{AreForHosts, HasOtherField, HasTrustedKey, HostCheck, IsGoodFor, IsHostKey, IsKnownBy, IsSaid, IsSettled, IsTrustedByKey, IsTrustedCertificate, IsTrustedKey, IsUnread, IsVerdictOfSigned, OfAsked, are_accepted, login_of, plain_name, RanOut, SayTheSame, held_login}
use Rattle.host_keys.specs.declared.host_check.HostCheck as code
use Rattle.host_keys.specs.declared.refusal.HostRefusal.{HostRefusal}
use Rattle.host_keys.specs.declared.refusal.HostRefusal.TheVariants as refusal

-- ---- by which name

-- What is said at the port, and of the plain name.
abbrev pub at_each : Verdict → Verdict → List ℕ → Verdict → Type 0
at_each at_port plainly name v = v ≡ (if bytes_eq name (codes "[h.example]:2222") then at_port else plainly)

-- The plain name is asked where nothing is known at the port, and at port 22.
abbrev pub Names : Type 0
Names = IsSaid (at_each Trusted Revoked) host 2222 Trusted
    × ¬ IsSaid (at_each Trusted Revoked) host 2222 Revoked
    × IsSaid (at_each Changed Trusted) host 2222 Changed
    × ¬ IsSaid (at_each Changed Trusted) host 2222 Trusted
    × IsSaid (at_each Unknown Trusted) host 2222 Trusted
    × IsSaid (at_each Unknown Revoked) host 2222 Revoked
    × IsSaid (at_each Unknown Unknown) host 2222 Unknown
    × ¬ IsSaid (at_each Unknown Trusted) host 2222 Unknown
    × IsSaid (at_each Changed Trusted) (codes "H.Example") 22 Trusted
    × (plain_name (codes "H.Example") ≡ host)
    × IsSettled Unknown 22
    × IsSettled Changed 2222
    × ¬ IsSettled Unknown 2222

-- ---- a key

abbrev pub login : HostCheck
login = record {
  hmac = hmac_sha1;
  lines = line None host ∷ [];
  host = codes "H.Example";
  port = 22;
  time = 100;
  least_rsa_bits = 0;
}

abbrev pub dsa_key : Key
dsa_key = Dsa (record { p = 7 ∷ []; q = 3 ∷ []; g = 2 ∷ []; y = 4 ∷ [] })

-- Of another host, revoked by a line and by a list, hidden, changed, at another port, and with
-- nothing to ask about.
abbrev pub HostKeys : Type 0
HostKeys = IsHostKey login (λ key. false) ed25519_key
    × IsHostKey (record login { port = 2222 }) (λ key. false) ed25519_key
    × ¬ IsHostKey login (λ key. true) ed25519_key
    × ¬ IsHostKey login (λ key. false) authority
    × ¬ IsHostKey (record login { lines = [] }) (λ key. false) ed25519_key
    × ¬ IsHostKey (record login { lines = other_line ∷ [] }) (λ key. false) ed25519_key
    × ¬ IsHostKey (record login { lines = line None host ∷ line (Some known.Revoked) host ∷ [] }) (λ key. false) ed25519_key
    × ¬ IsHostKey (record login { lines = line None host ∷ broken_line ∷ [] }) (λ key. false) ed25519_key
    × ¬ IsHostKey (record login { host = codes "g.example" }) (λ key. false) ed25519_key
    × ¬ IsHostKey (record login { host = [] }) (λ key. false) ed25519_key
    × ¬ IsHostKey (record login { port = 0 }) (λ key. false) ed25519_key
    × OfAsked login (λ it. it.host ≡ codes "H.Example")
    × ¬ OfAsked (record login { host = [] }) (λ it. Unit {0})
    × ¬ OfAsked (record login { port = 0 }) (λ it. Unit {0})

-- ---- held lines

-- No held line changes nothing. Lines say the same as themselves, and no lines not what the host's
-- line says, but where nothing can be asked.
abbrev pub HeldLines : Type 0
HeldLines = ((l : code.HostCheck) → held_login l [] hmac_sha1 ≡ login_of l hmac_sha1)
    × SayTheSame login login.lines
    × ¬ SayTheSame login []
    × SayTheSame (record login { port = 0 }) []
    × ((l : code.HostCheck) → ¬ RanOut l refusal.Unknown)

-- ---- who signs

abbrev rsa : List ℕ → Key
rsa n = Rsa (record { e = 3 ∷ []; n = n })

-- the powers of two of that many bits, as RFC 4251 writes them
abbrev of_1023_bits : List ℕ
of_1023_bits = 0x40 ∷ replicate 127 0

abbrev of_1024_bits : List ℕ
of_1024_bits = 0 ∷ 0x80 ∷ replicate 127 0

-- An authority has any kind but DSA and private use, and 1,024 bits of RSA, whatever its hosts' have.
abbrev pub Authorities : Type 0
Authorities = (are_accepted 0 ed25519_key authority ≡ true)
    × (are_accepted 0 ed25519_key dsa_key ≡ false)
    × (are_accepted 0 dsa_key authority ≡ false)
    × (are_accepted 0 ed25519_key (Opaque (codes "key@example.org") []) ≡ false)
    × (are_accepted 0 ed25519_key (rsa of_1023_bits) ≡ false)
    × (are_accepted 1025 ed25519_key (rsa of_1024_bits) ≡ true)
    × (are_accepted 1024 (rsa of_1024_bits) (rsa of_1024_bits) ≡ true)
    × (are_accepted 1025 (rsa of_1024_bits) (rsa of_1024_bits) ≡ false)

abbrev pub OfSigned : List (List ℕ) → Verdict → Type 0
OfSigned lines v = IsVerdictOfSigned hmac_sha1 host authority ed25519_key lines v

-- A line has the authority's key as an authority's; another reading of the line, or another
-- authority, is none. A line that revokes one of the two keys comes first, then one that is hidden.
abbrev pub SignedKeys : Type 0
SignedKeys = OfSigned (by_line ∷ []) Trusted
    × OfSigned (line None host ∷ []) Unknown
    × OfSigned [] Unknown
    × ¬ OfSigned (line None host ∷ []) Trusted
    × IsVerdictOfSigned hmac_sha1 host ed25519_key authority (by_line ∷ []) Unknown
    × IsVerdictOfSigned hmac_sha1 (codes "g.example") authority ed25519_key (by_line ∷ []) Unknown
    × OfSigned (by_line ∷ line (Some known.Revoked) host ∷ []) Revoked
    × ¬ OfSigned (by_line ∷ line (Some known.Revoked) host ∷ []) Trusted
    × IsVerdictOfSigned hmac_sha1 host ed25519_key ed25519_key (by_line ∷ line (Some known.Revoked) host ∷ []) Revoked
    × IsVerdictOfSigned hmac_sha1 host ed25519_key authority (by_line ∷ line (Some known.Revoked) host ∷ []) Revoked
    × OfSigned (by_line ∷ broken_line ∷ []) Unreadable
    × ¬ OfSigned (by_line ∷ broken_line ∷ []) Trusted
    × ¬ OfSigned (other_line ∷ []) Changed

-- ---- a certificate

abbrev pub option : List ℕ → List ℕ → CertificateOption
option name value = record { name = name; value = value }

-- of one key, by the other
abbrev pub fields : SignedFields
fields = record {
  nonce = [];
  key = authority;
  serial = 7;
  certificate_type = Host;
  key_id = codes "id";
  valid_principals = host ∷ codes "g.example" ∷ [];
  valid_after = 100;
  valid_before = 200;
  critical_options = [];
  extensions = [];
  reserved = [];
  signature_key = ed25519_key;
}

abbrev pub of_fields : SignedFields → Certificate
of_fields f = record { signed = f; signature = record { algorithm = Algorithm.Ed25519; blob = [] } }

abbrev pub trusted_by : HostCheck
trusted_by = record login { lines = by_line ∷ [] }

abbrev pub TrustsFields : HostCheck → SignedFields → Type 0
TrustsFields l f = IsTrustedCertificate l (λ q. true) (λ key identity. false) (of_fields f)

-- Whatever the lines say, keys that ssh does not accept are no host's: of DSA, and of 8 bits.
abbrev pub Unaccepted : Type 0
Unaccepted = (l : HostCheck)
    → ¬ IsTrustedKey l (λ key. false) dsa_key
    × ¬ IsTrustedKey (record l { least_rsa_bits = 0 }) (λ key. false) rsa_key
    × ¬ TrustsFields l (record fields { key = dsa_key })
    × ¬ TrustsFields l (record fields { signature_key = dsa_key })

-- For users, with a critical option, and a key id with a zero byte; an extension is none's concern.
abbrev pub Fields : Type 0
Fields = TrustsFields trusted_by fields
    × ¬ TrustsFields trusted_by (record fields { certificate_type = User })
    × ¬ TrustsFields trusted_by (record fields { critical_options = option (codes "x@example.com") [] ∷ [] })
    × ¬ TrustsFields trusted_by (record fields { key_id = 0x69 ∷ 0 ∷ 0x64 ∷ [] })
    × TrustsFields trusted_by (record fields { extensions = option (codes "x@example.com") [] ∷ [] })

-- The host's name in small letters, byte by byte, whatever the port. A certificate that lists nobody
-- is no host's.
abbrev pub Principals : Type 0
Principals = TrustsFields (record trusted_by { port = 2222 }) fields
    × ¬ TrustsFields trusted_by (record fields { valid_principals = codes "g.example" ∷ [] })
    × ¬ TrustsFields trusted_by (record fields { valid_principals = codes "H.Example" ∷ [] })
    × ¬ TrustsFields trusted_by (record fields { valid_principals = codes "*.example" ∷ [] })
    × ¬ TrustsFields trusted_by (record fields { valid_principals = [] })
    × ¬ TrustsFields trusted_by (record fields { valid_principals = host ∷ (0 ∷ []) ∷ [] })
    × IsGoodFor (λ q. true) 100 host (of_fields fields)
    × ¬ IsGoodFor (λ q. true) 100 (codes "H.Example") (of_fields fields)
    × AreForHosts (host ∷ [])
    × ¬ AreForHosts []
    × AreForHosts (replicate 256 host)
    × ¬ AreForHosts (replicate 257 host)

-- No authority, a line without the marker, a signature that does not count, and a revoked
-- certificate; and times.
abbrev pub Trust : Type 0
Trust = ¬ TrustsFields (record trusted_by { lines = [] }) fields
    × ¬ TrustsFields (record trusted_by { lines = line None host ∷ [] }) fields
    × ¬ IsTrustedCertificate trusted_by (λ q. false) (λ key identity. false) (of_fields fields)
    × ¬ IsTrustedCertificate trusted_by (λ q. true) (λ key identity. true) (of_fields fields)
    × ¬ TrustsFields (record trusted_by { time = 99 }) fields
    × TrustsFields (record trusted_by { time = 199 }) fields
    × ¬ TrustsFields (record trusted_by { time = 200 }) fields
    × TrustsFields (record trusted_by { time = 2 ^ 63 - 1 }) (record fields { valid_before = forever })
    × ¬ TrustsFields (record trusted_by { time = 2 ^ 63 }) (record fields { valid_before = forever })

-- ---- a certificate whose key is the host's

-- of the key that a line lists, by a key that no line has as an authority's
abbrev pub own_fields : SignedFields
own_fields = record fields { key = ed25519_key; signature_key = authority }

-- of the same key, by itself, which the first of two lines has as an authority's
abbrev pub by_itself : SignedFields
by_itself = record fields { key = ed25519_key }

abbrev pub both_lines : HostCheck
both_lines = record login { lines = by_line ∷ line None host ∷ [] }

abbrev pub TrustsKeyOf : HostCheck → SignedFields → Type 0
TrustsKeyOf l f = IsKnownBy l (λ q. true) (λ key identity. false) (λ key. false) (of_fields f) CertifiedKey

-- Whatever it is for; but no other key, none that its authority makes the host's, as long as it
-- does, and none that is revoked, or whose authority is, or that may be. And only of a certificate
-- that ssh reads, which asks its signature, too.
abbrev pub CertifiedKeys : Type 0
CertifiedKeys = TrustsKeyOf login own_fields
    × TrustsKeyOf login (record own_fields { certificate_type = User; critical_options = option (codes "x@example.com") [] ∷ []; valid_principals = [] })
    × ¬ TrustsKeyOf login fields
    × ¬ TrustsKeyOf (record login { lines = [] }) own_fields
    × ¬ TrustsKeyOf both_lines by_itself
    × TrustsKeyOf (record both_lines { time = 200 }) by_itself
    × ¬ IsTrustedByKey login (λ q. false) (λ key identity. false) (λ key. false) (of_fields own_fields)
    × ¬ IsTrustedByKey login (λ q. true) (λ key identity. true) (λ key. false) (of_fields own_fields)
    × ¬ IsTrustedByKey login (λ q. true) (λ key identity. false) (λ key. true) (of_fields own_fields)
    × ¬ TrustsKeyOf (record login { lines = other_line ∷ line (Some known.Revoked) host ∷ [] }) fields
    × ¬ TrustsKeyOf (record login { lines = line None host ∷ broken_line ∷ [] }) own_fields
    × ¬ TrustsKeyOf login (record own_fields { key_id = 0x69 ∷ 0 ∷ 0x64 ∷ [] })
    × ¬ TrustsKeyOf login (record own_fields { valid_principals = host ∷ (0x61 ∷ 0 ∷ 0x62 ∷ []) ∷ [] })
    × ¬ TrustsKeyOf login (record own_fields { signature_key = dsa_key })

-- By its authority, or by its key alone; and the key by itself, whatever the lines say of others.
abbrev pub Ways : Type 0
Ways = IsKnownBy trusted_by (λ q. true) (λ key identity. false) (λ key. false) (of_fields fields) Authority
    × ¬ IsKnownBy trusted_by (λ q. true) (λ key identity. false) (λ key. false) (of_fields fields) CertifiedKey
    × ¬ IsKnownBy login (λ q. true) (λ key identity. false) (λ key. false) (of_fields own_fields) Authority
    × HasTrustedKey login (λ q. true) (λ key. false) (of_fields own_fields)
    × ¬ HasTrustedKey login (λ q. true) (λ key. false) (of_fields fields)

-- ---- what is answered

-- What is revoked by who says so comes first, then what the lines say.
abbrev pub AnswersGiven : Type 0
AnswersGiven = (verdict_answer Trusted ≡ Ok tt)
    × (verdict_answer Revoked ≡ Err refusal.Revoked)
    × (verdict_answer Unreadable ≡ Err refusal.Unreadable)
    × (verdict_answer Changed ≡ Err refusal.Changed)
    × (verdict_answer Unknown ≡ Err refusal.Unknown)
    × (answer_of {E = Unit {0}} {F = Unit {0}} (Ok true) (Ok Changed) ≡ Err refusal.Revoked)
    × (answer_of {E = Unit {0}} {F = Unit {0}} (Ok false) (Ok Changed) ≡ Err refusal.Changed)
    × (answer_of {E = Unit {0}} {F = Unit {0}} (Ok false) (Ok Trusted) ≡ Ok tt)
    × (answer_of {E = Unit {0}} {F = Unit {0}} (Err tt) (Ok Trusted) ≡ Err refusal.Memory)
    × (answer_of {E = Unit {0}} {F = Unit {0}} (Ok false) (Err tt) ≡ Err refusal.Memory)

-- of a verdict, by whether it is revoked and the keys are accepted, of a certificate that is bad
abbrev pub Why : Verdict → Bool → Bool → HostRefusal → Type 0
Why said revoked accepted = IsWhy (λ v. v ≡ said) revoked accepted (λ r. Unit {0})

-- What is revoked comes first, then the verdict, then the keys, and last the certificate.
abbrev pub Reasons : Type 0
Reasons = Why Changed true true refusal.Revoked
    × ¬ Why Changed true true refusal.Changed
    × Why Revoked false true refusal.Revoked
    × Why Unreadable false true refusal.Unreadable
    × Why Changed false true refusal.Changed
    × Why Unknown false false refusal.Unknown
    × ¬ Why Unknown false false refusal.UnacceptedKey
    × Why Trusted false false refusal.UnacceptedKey
    × ¬ Why Trusted false true refusal.UnacceptedKey
    × ¬ Why Trusted false false (refusal.Certificate (CertificateFieldInvalid field.CertType))
    × Why Trusted false true (refusal.Certificate (CertificateFieldInvalid field.CertType))
    × ¬ Why Trusted false true refusal.NotNormalForm

-- After which refusal of a certificate its key is asked, and what is answered where that is refused
-- too.
abbrev pub BothReasons : Type 0
BothReasons = (is_final refusal.Revoked ≡ true)
    × (is_final refusal.Unreadable ≡ true)
    × (is_final refusal.Unknown ≡ false)
    × (is_final refusal.UnacceptedKey ≡ false)
    × (is_final (refusal.Invalid Window) ≡ false)
    × (of_both refusal.Unknown refusal.Changed ≡ refusal.Changed)
    × (of_both refusal.Unknown refusal.Unknown ≡ refusal.Unknown)
    × (of_both refusal.UnacceptedKey refusal.Changed ≡ refusal.UnacceptedKey)
    × (of_both (refusal.Invalid Window) refusal.Unknown ≡ refusal.Invalid Window)
    × (of_both (refusal.Invalid Window) (refusal.Invalid Signature) ≡ refusal.Invalid Signature)
    × (of_both refusal.UnacceptedKey refusal.Memory ≡ refusal.Memory)

-- of a certificate by that field, which ssh does not read
abbrev pub IsUnreadFor : SignedFields → HostRefusal → Type 0
IsUnreadFor f = IsUnread (of_fields f)

-- The first of what ssh does not read.
abbrev pub FirstUnread : Type 0
FirstUnread = IsUnreadFor (record own_fields { signature_key = dsa_key }) refusal.UnacceptedKey
    × IsUnreadFor (record own_fields { signature_key = dsa_key; key_id = 0 ∷ 0x64 ∷ [] }) refusal.UnacceptedKey
    × IsUnreadFor (record own_fields { key_id = 0 ∷ 0x64 ∷ [] }) (refusal.Certificate (CertificateFieldInvalid field.KeyId))
    × IsUnreadFor (record own_fields { valid_principals = (0 ∷ 0x62 ∷ []) ∷ [] }) (refusal.Certificate (CertificateFieldInvalid field.ValidPrincipals))

abbrev pub IsUnknownFor : (Question → Bool) → SignedFields → HostRefusal → Type 0
IsUnknownFor accepts f = IsWhyUnknown login accepts (λ key identity. false) (λ key. false) (of_fields f)

-- Of an unknown authority the key's refusal is told: another key is listed, or nobody signed.
abbrev pub UnknownReasons : Type 0
UnknownReasons = IsUnknownFor (λ q. true) fields refusal.Changed
    × IsUnknownFor (λ q. false) own_fields (refusal.Invalid Signature)
    × IsWhyNoCertifiedKey login (λ q. true) (λ key. false) (of_fields fields) refusal.Changed
    × KnownExactly (λ by. by ≡ CertifiedKey) (Ok CertifiedKey)
    × ¬ KnownExactly (λ by. by ≡ Authority) (Ok CertifiedKey)
    × ¬ KnownExactly (λ by. by ≡ Authority) (Err refusal.Unknown)
    × KnownExactly (λ by. by ≡ Authority) (Err refusal.Memory)

abbrev pub Lacks : SignedFields → Field → Type 0
Lacks f it = HasOtherField (of_fields f) (CertificateFieldInvalid it)

-- The first of its fields that none for hosts has.
abbrev pub FirstFields : Type 0
FirstFields = Lacks (record fields { certificate_type = User }) field.CertType
    × Lacks (record fields { certificate_type = User; critical_options = option (codes "x@example.com") [] ∷ [] }) field.CertType
    × Lacks (record fields { critical_options = option (codes "x@example.com") [] ∷ [] }) field.CriticalOptions
    × Lacks (record fields { key_id = 0x69 ∷ 0 ∷ 0x64 ∷ [] }) field.KeyId
    × Lacks (record fields { valid_principals = [] }) field.ValidPrincipals
