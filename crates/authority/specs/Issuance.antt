-- Which keys an authority certifies: those of some kinds by which OpenSSH lets somebody in.
use Rattle.std.specs.Prelude.{Bool, true, false, IsTrue, ◌≡◌, ◌≢◌, ◌⊎◌, ◌==◌, ◌&&◌, ℕ, ◌+◌, ◌^◌, ◌<◌, ◌≤◌, List, [], ◌∷◌, length, not, All, Contains, Option, Result, Ok, Err, None, Some, String, map, string_bytes, bytes_eq}
use Rattle.openssh_limits.specs.Limits.{openssh_accepts_key}
use Rattle.ssh_key.specs.model.Keys.{Key, Dsa, Ecdsa, Ed25519, Rsa, SkEcdsa, SkEd25519, Opaque}
use Rattle.authority.specs.declared.keys.KeyKinds.{KeyKinds}
use Rattle.std.specs.List.{list_all, list_any}
use Rattle.std.specs.NonZero.{non_zero_u64_get}
use Rattle.ssh_key.specs.cert.Certificates.{certificate_of, comment_of}
use Rattle.ssh_key.specs.cert.Signing.{PermitsToSign, RefusesToSign}
use Rattle.ssh_key.specs.cert_builder.Builders.{IsValidExactlyIn, draft_of}
use Rattle.ssh_key.specs.keys.Keys.{key_of}
use Rattle.ssh_key.specs.model.Certificates.{SignedFields, User}
use Rattle.ssh_key.specs.model.Drafts.{Extension, Principal, Step, after_steps, bad_window}
use Rattle.ssh_key.specs.model.Fingerprints.{fingerprint}
use Rattle.ssh_key.specs.model.Lines.{IsWithout}
use Rattle.ssh_key.specs.model.Names.{Sha256}
use Rattle.ssh_key.specs.model.OptionMaps.{value_of, with_option}
use Rattle.ssh_key.specs.model.Options.{CertificateOption}
use Rattle.ssh_key.specs.model.Verification.{Question}
use Rattle.ssh_key.specs.types.Certificate.{Certificate}
use Rattle.ssh_key.specs.types.Error.{Error}
use Rattle.ssh_key.specs.types.Error.TheVariants.{CertificateFieldInvalid, Memory}
use Rattle.ssh_key.specs.types.certificate.Builder.{Builder}
use Rattle.ssh_key.specs.types.certificate.Field.TheVariants as field
use Rattle.ssh_key.specs.types.public.KeyData.{KeyData}
use Rattle.authority.specs.declared.authority.Authority.{Authority}
use Rattle.authority.specs.declared.limits.Limits.{Limits}
use Rattle.authority.specs.declared.request.Request.{Request}

abbrev pub all : KeyKinds
all = record { ecdsa = true; ed25519 = true; rsa = true; sk_ecdsa = true; sk_ed25519 = true }

-- The key is of one of the kinds, and so under no private-use name. In certificates such a name may
-- be that of another kind of key, as `ssh-ed25519@openssh.com` is, and then what is signed would
-- certify another key.
abbrev pub is_among : KeyKinds → Key → Bool
is_among kinds (Dsa k) = false
is_among kinds (Ecdsa c point) = kinds.ecdsa
is_among kinds (Ed25519 k) = kinds.ed25519
is_among kinds (Rsa k) = kinds.rsa
is_among kinds (SkEcdsa k) = kinds.sk_ecdsa
is_among kinds (SkEd25519 k) = kinds.sk_ed25519
is_among kinds (Opaque name k) = false

-- And somebody is let in by it, where an RSA key has 2,048 bits or more.
pub record IsCertifiable (kinds : KeyKinds) (key : Key) : Type 0 where
  pub among : IsTrue (is_among kinds key)
  pub let_in : IsTrue (openssh_accepts_key 2048 key)

-- What an authority certifies.

-- ---- what may be asked for

abbrev pub IsListedName : {Y : Type 0} → List (String Y) → List ℕ → Type 0
IsListedName listed name = Contains (map string_bytes listed) name

-- the test of it
abbrev pub is_listed : {Y : Type 0} → List (String Y) → List ℕ → Bool
is_listed listed name = list_any (λ it. bytes_eq name (string_bytes it)) listed

-- The test of a text without a zero byte: sshd(8) takes a text to end at one that stands last, and
-- reads no certificate with another one.
abbrev pub has_no_zero : List ℕ → Bool
has_no_zero text = list_all (λ b. not (b == 0)) text

-- The name is listed, and no byte of it is 0.
abbrev pub IsAllowedName : {Y : Type 0} → List (String Y) → List ℕ → Type 0
IsAllowedName listed name = IsWithout 0 name × IsListedName listed name

-- the test of it
abbrev pub is_allowed : {Y : Type 0} → List (String Y) → List ℕ → Bool
is_allowed listed name = has_no_zero name && is_listed listed name

abbrev pub names_of : Request → List (List ℕ)
names_of r = map string_bytes r.principals.items

-- There are some users, up to 256: sshd reads no certificate with more. Each is listed, and no byte
-- of a name is 0.
abbrev pub AreAllowed : Limits → Request → Type 0
AreAllowed limits r = (names_of r ≢ []) × (length (names_of r) ≤ 256) × All (IsAllowedName limits.principals.items) (names_of r)

abbrev pub extensions_of : Request → List (List ℕ)
extensions_of r = map string_bytes r.extensions.items

-- Each extension is listed, and no byte of its name is 0.
abbrev pub ArePermitted : Limits → Request → Type 0
ArePermitted limits r = All (IsAllowedName limits.extensions.items) (extensions_of r)

-- The window ends at a time, has a second and at most `longest`, is not over at t, and ends at most
-- `longest` seconds later. It may begin before t, and these seconds count too.
abbrev pub HasAllowedWindow : Limits → ℕ → Request → Type 0
HasAllowedWindow limits t r = (r.valid_before < 2 ^ 63) × (r.valid_after < r.valid_before) × (r.valid_before ≤ r.valid_after + limits.longest) × (t < r.valid_before) × (r.valid_before ≤ t + limits.longest)

-- At the second t the request is within the limits.
pub record IsWithinLimits (limits : Limits) (t : ℕ) (r : Request) : Type 0 where
  pub key : IsCertifiable limits.kinds (key_of r.key)
  pub key_id : IsWithout 0 (string_bytes r.key_id)
  pub users : AreAllowed limits r
  pub extensions : ArePermitted limits r
  pub window : HasAllowedWindow limits t r

-- The error says what is outside the limits first: the key, the key id, the users, the extensions or
-- the window.
pub data RefusesRequest (limits : Limits) (t : ℕ) (r : Request) : Error → Type 0 where
  OtherKey : (IsCertifiable limits.kinds (key_of r.key) → ⊥) → RefusesRequest limits t r (CertificateFieldInvalid field.PublicKey)
  OtherKeyId : IsCertifiable limits.kinds (key_of r.key) → (IsWithout 0 (string_bytes r.key_id) → ⊥) → RefusesRequest limits t r (CertificateFieldInvalid field.KeyId)
  OtherUsers : IsCertifiable limits.kinds (key_of r.key) → IsWithout 0 (string_bytes r.key_id) → (AreAllowed limits r → ⊥) → RefusesRequest limits t r (CertificateFieldInvalid field.ValidPrincipals)
  OtherExtensions : IsCertifiable limits.kinds (key_of r.key) → IsWithout 0 (string_bytes r.key_id) → AreAllowed limits r → (ArePermitted limits r → ⊥) → RefusesRequest limits t r (CertificateFieldInvalid field.Extensions)
  OtherWindow : IsCertifiable limits.kinds (key_of r.key) → IsWithout 0 (string_bytes r.key_id) → AreAllowed limits r → ArePermitted limits r → (HasAllowedWindow limits t r → ⊥) → RefusesRequest limits t r (CertificateFieldInvalid field.ValidBefore)

-- ---- what is certified

-- an extension without data
abbrev pub flag : List ℕ → CertificateOption
flag name = record { name = name; value = [] }

-- that extension with them, unless one of its name is there
abbrev pub with_flag : Option (List ℕ) → List ℕ → List CertificateOption → List CertificateOption
with_flag None name os = with_option (flag name) os
with_flag (Some value) name os = os

-- these and the extensions of the names, each once, in their order
abbrev pub with_flags : List (List ℕ) → List CertificateOption → List CertificateOption
with_flags [] os = os
with_flags (name ∷ names) os = with_flags names (with_flag (value_of name os) name os)

-- a certificate for users of just what was asked for, under that serial number and nonce, without
-- critical options
abbrev pub fields_for : Request → ℕ → List ℕ → Key → SignedFields
fields_for r serial nonce authority = record {
  nonce = nonce;
  key = key_of r.key;
  serial = serial;
  certificate_type = User;
  key_id = string_bytes r.key_id;
  valid_principals = names_of r;
  valid_after = r.valid_after;
  valid_before = r.valid_before;
  critical_options = [];
  extensions = with_flags (extensions_of r) [];
  reserved = [];
  signature_key = authority;
}

-- The certificate has these fields and no comment, and for whoever trusts the authority it is valid
-- exactly in the window that was asked for.
pub record IsIssued (accepts : Question → Bool) (authority : Key) (r : Request) (serial : ℕ) (nonce : List ℕ) (c : Certificate) : Type 0 where
  pub fields : (certificate_of c).signed ≡ fields_for r serial nonce authority
  pub no_comment : comment_of c ≡ []
  pub valid : IsValidExactlyIn accepts (fingerprint Sha256 authority) r.valid_after r.valid_before (certificate_of c)

-- That certificate; or, where the window is one and there are users, a refusal to sign it.
abbrev pub CertifiesExactly : (Question → Bool) → Key → (List ℕ → Error → Type 0) → Request → ℕ → List ℕ → Result Certificate Error → Type 0
CertifiesExactly accepts authority refuses r serial nonce (Ok c) = IsIssued accepts authority r serial nonce c
CertifiesExactly accepts authority refuses r serial nonce (Err e) = bad_window r.valid_after r.valid_before ≡ None → names_of r ≢ [] → RefusesToSign refuses (fields_for r serial nonce authority) e

-- A serial number is left: the one after it is below 2^64.
abbrev pub IsLeft : ℕ → Type 0
IsLeft serial = serial + 1 < 2 ^ 64

-- the serial number of the next certificate
abbrev pub next_of : Authority → ℕ
next_of a = non_zero_u64_get a.next_serial

-- What a call may ask the signer to sign: the certificate of the request under the next serial
-- number, where it is within the limits and a number is left.
abbrev pub MayIssue : {S : Type 0} → (S → List ℕ → Type 0) → (S → KeyData) → S → Authority → ℕ → Request → List ℕ → Type 0
MayIssue permits public_of s a t r nonce = IsWithinLimits a.limits t r → IsLeft (next_of a) → PermitsToSign (permits s) (fields_for r (next_of a) nonce (key_of (public_of s)))

-- Ok is that certificate, of a request within the limits. Else the request is outside them; or it
-- is within, and no serial number is left; or one is, and it is not signed.
abbrev pub IssuesExactly : (Question → Bool) → Key → (List ℕ → Error → Type 0) → Limits → ℕ → Request → ℕ → List ℕ → Result Certificate Error → Type 0
IssuesExactly accepts authority refuses limits t r serial nonce (Ok c) = IsWithinLimits limits t r × IsIssued accepts authority r serial nonce c
IssuesExactly accepts authority refuses limits t r serial nonce (Err e) = RefusesRequest limits t r e ⊎ (IsWithinLimits limits t r × ¬ IsLeft serial × (e ≡ CertificateFieldInvalid field.Serial)) ⊎ (IsWithinLimits limits t r × IsLeft serial × RefusesToSign refuses (fields_for r serial nonce authority) e)

-- ---- naming principals and extensions

-- The builder is told of each of them, or memory ran out.
abbrev pub NamesEach : List (List ℕ) → Builder → Result Unit Error → Builder → Type 0
NamesEach names before (Ok x) after = draft_of after ≡ after_steps (map Principal names) (draft_of before)
NamesEach names before (Err e) after = e ≡ Memory

-- what a builder is told of an extension
abbrev pub added : List ℕ → Step
added name = Extension (flag name)

-- The builder is told of each extension, or memory ran out.
abbrev pub AddsEach : List (List ℕ) → Builder → Result Unit Error → Builder → Type 0
AddsEach names before (Ok x) after = draft_of after ≡ after_steps (map added names) (draft_of before)
AddsEach names before (Err e) after = e ≡ Memory

-- Which serial numbers an authority gives.

-- Beginning with the one number as the next one, these are given, and then the other is the next.
abbrev pub IsHistory : ℕ → List ℕ → ℕ → Type 0
IsHistory from [] to = from ≤ to
IsHistory from (s ∷ ss) to = (from ≤ s) × IsHistory (s + 1) ss to

-- the number that was given
abbrev pub serial_of : Result Certificate Error → List ℕ
serial_of (Ok c) = (certificate_of c).signed.serial ∷ []
serial_of (Err e) = []

-- 0 is no serial number; another is refused only when out of memory.
abbrev pub RefusesSerial : ℕ → Error → Type 0
RefusesSerial serial e = ((serial ≡ 0) × (e ≡ CertificateFieldInvalid field.Serial)) ⊎ ((0 < serial) × (e ≡ Memory))
