-- Which certificate a draft tells (PROTOCOL.certkeys).
use Rattle.std.specs.Prelude.{◌≡◌, ◌≢◌, ◌⊎◌, ◌↔◌, ◌<◌, ◌^◌, ℕ, List, [], ◌∷◌, ◌++◌, length, nat_lt, ◌==◌, if◌then◌else◌, Result, Ok, Err}
use Rattle.std.specs.Str.{is_utf8}
use Rattle.std.proofs.Math.Bool.{beq}
use Rattle.sshkey_model.specs.Certificates.{SignedFields, IsTime, IsEnd, certificate_at, end_from, normal_to_be_signed, time_from, type_from, type_number, SpellsCertificate}
use Rattle.sshkey_model.specs.Keys.{Key, Dsa, Ecdsa, Ed25519, Rsa, SkEcdsa, SkEd25519, Opaque, SpellsKey, key_data_at}
use Rattle.sshkey_model.specs.Parts.{Fits, flat}
use Rattle.sshkey_model.specs.Reading.{Fault, Front, whole}
use Rattle.sshkey_model.specs.Texts.{string, texts_at, IsText, SpellsTexts}
use Rattle.sshkey_cert_values.specs.CertificateFields.{type_of, end_of, time_of}
use Rattle.sshkey_model.specs.Options.{SpellsOptions, options_value_at}
use Rattle.sshkey_cert_values.specs.declared.cert_type.CertType.{CertType}
use Rattle.sshkey_cert_values.specs.declared.end_time.EndTime.{EndTime}
use Rattle.sshkey_cert_values.specs.declared.unix_time.UnixTime.{UnixTime}
use Rattle.sshkey_calls.specs.Numbers.{fault_number}
use Rattle.sshkey_calls.specs.Writing.{WritesOf}
use Rattle.sshkey_calls.specs.declared.draft.CertificateDraft.{CertificateDraft}

-- 12 for a key under a private-use name
abbrev pub key_status : Key → ℕ
key_status (Dsa k) = 0
key_status (Ecdsa curve point) = 0
key_status (Ed25519 k) = 0
key_status (Rsa k) = 0
key_status (SkEcdsa k) = 0
key_status (SkEd25519 k) = 0
key_status (Opaque name k) = 12

-- Certificates are of keys under the names of the standards.
abbrev pub IsCertifiable : Key → Type 0
IsCertifiable k = key_status k ≡ 0

-- The fields are those that the draft tells, and a certificate may have them: its window is not
-- empty, and it lists no principals exactly if all are to be allowed.
pub record TellsFields (d : CertificateDraft) (f : SignedFields) : Type 0 where
  pub nonce : f.nonce ≡ d.nonce.now
  pub key : SpellsKey f.key d.key.now × IsCertifiable f.key
  pub serial : f.serial ≡ d.serial
  pub certificate_type : type_number f.certificate_type ≡ d.certificate_type
  pub key_id : (f.key_id ≡ d.key_id.now) × IsText f.key_id
  pub valid_principals : SpellsTexts f.valid_principals (flat (string d.principals.now))
  pub listed : (length d.principals.now ≡ 0) ↔ (d.all_principals ≡ 1)
  pub valid_after : (f.valid_after ≡ d.valid_after) × IsTime f.valid_after
  pub valid_before : (f.valid_before ≡ d.valid_before) × IsEnd f.valid_before
  pub window : d.valid_after < d.valid_before
  pub critical_options : SpellsOptions f.critical_options (flat (string d.critical_options.now))
  pub extensions : SpellsOptions f.extensions (flat (string d.extensions.now))
  pub reserved : f.reserved ≡ []
  pub signature_key : SpellsKey f.signature_key d.authority.now

-- the bytes that are to be signed of the certificate that the draft tells
abbrev pub IsToBeSigned : CertificateDraft → List ℕ → Type 0
IsToBeSigned d s = (f : SignedFields) × TellsFields d f × Fits (normal_to_be_signed f) × (s ≡ flat (normal_to_be_signed f))

-- ---- its numbers

-- The type and the times are those that the draft tells, and they and the choice of principals are
-- right.
pub record TellsNumbers (d : CertificateDraft) (t : CertType) (after : UnixTime) (before : EndTime) : Type 0 where
  pub certificate_type : type_number (type_of t) ≡ d.certificate_type
  pub valid_after : (time_of after ≡ d.valid_after) × IsTime (time_of after)
  pub valid_before : (end_of before ≡ d.valid_before) × IsEnd (end_of before)
  pub window : d.valid_after < d.valid_before
  pub listed : (length d.principals.now ≡ 0) ↔ (d.all_principals ≡ 1)

abbrev pub number_of : {A : Type 0} → Result A Fault → ℕ
number_of (Ok x) = 0
number_of (Err fault) = fault_number fault

-- the first that is not 0
abbrev pub first_number : List ℕ → ℕ
first_number [] = 0
first_number (n ∷ ns) = if n == 0 then first_number ns else n

-- what is wrong with the type, the times, the window and the principals first, and 0 where nothing
-- is
abbrev pub draft_fault : CertificateDraft → ℕ
draft_fault d = first_number (
    number_of (type_from d.certificate_type)
    ∷ number_of (time_from d.valid_after)
    ∷ number_of (end_from d.valid_before)
    ∷ (if nat_lt d.valid_after d.valid_before then 0 else 46)
    ∷ (if beq (length d.principals.now == 0) (d.all_principals == 1) then 0 else 45)
    ∷ [])

-- ---- its parts

abbrev pub certifiable_number : Result Key Fault → ℕ
certifiable_number (Ok k) = key_status k
certifiable_number (Err fault) = fault_number fault

-- 11 for bytes that are no text
abbrev pub text_number : List ℕ → ℕ
text_number b = if is_utf8 b then 0 else 11

-- 13 for bytes that no string can hold
abbrev pub string_number : List ℕ → ℕ
string_number b = if nat_lt (length b) (2 ^ 32) then 0 else 13

-- the first fault of what stands in a string
abbrev pub list_number : {A : Type 0} → Front A → List ℕ → ℕ
list_number read b = first_number (string_number b ∷ number_of (whole read (flat (string b))) ∷ [])

-- what is wrong with the keys, the key id, the principals and the options first, and 0 where
-- nothing is
abbrev pub parts_fault : CertificateDraft → ℕ
parts_fault d = first_number (
    certifiable_number (whole key_data_at d.key.now)
    ∷ number_of (whole key_data_at d.authority.now)
    ∷ text_number d.key_id.now
    ∷ list_number texts_at d.principals.now
    ∷ list_number options_value_at d.critical_options.now
    ∷ list_number options_value_at d.extensions.now
    ∷ [])

-- Every number but 0, 1 and 2 is that of what is wrong first: with the numbers, then with the
-- parts; where nothing is, the nonce or the key id is too long for a string.
abbrev pub TellsWrong : CertificateDraft → ℕ → Type 0
TellsWrong d n = n ≢ 0 → n ≢ 1 → n ≢ 2 → n ≡ first_number (draft_fault d ∷ parts_fault d ∷ 13 ∷ [])

-- 1 for memory, which may be asked for; or the number of what is wrong
abbrev pub IsWrong : ℕ → ℕ → Type 0 → Type 0
IsWrong n wrong asks = ((n ≡ 1) × asks) ⊎ ((2 < n) × (n ≡ wrong))

-- What a call gives that looks for the value that `Is` tells: the value, and nothing is wrong; or
-- the number of what is wrong first.
abbrev pub FindsOr : {X Y : Type 0} → (Y → Type 0) → (X → Y) → ℕ → Type 0 → Result X ℕ → Type 0
FindsOr Is means wrong asks (Ok x) = Is (means x) × (wrong ≡ 0)
FindsOr Is means wrong asks (Err n) = IsWrong n wrong asks

-- The same where memory may be asked for whatever the bytes are.
abbrev pub FindsPart : {X Y : Type 0} → (Y → Type 0) → (X → Y) → ℕ → Result X ℕ → Type 0
FindsPart Is means wrong = FindsOr Is means wrong (Unit {0})

-- ---- signed

-- a string can hold the bytes
abbrev pub FitsString : List ℕ → Type 0
FitsString b = length b < 2 ^ 32

-- the bytes of a certificate: those that were signed, and the signature in a string
abbrev pub IsJoined : List ℕ → List ℕ → List ℕ → Type 0
IsJoined to_be_signed signature s = (s ≡ to_be_signed ++ flat (string signature)) × FitsString signature

-- What a call answers that writes the bytes, which are to spell a certificate.
abbrev pub WritesCertificate : List ℕ → ℕ → ℕ → ℕ → List ℕ → List ℕ → Type 0
WritesCertificate bytes = WritesOf SpellsCertificate certificate_at (λ _. bytes) bytes

-- They are those of the certificate that the signature makes; or a string does not hold that, 13,
-- or memory is asked for, 1, and nothing changed.
abbrev pub WritesSigned : List ℕ → List ℕ → ℕ → ℕ → ℕ → List ℕ → List ℕ → Type 0
WritesSigned to_be_signed signature n was len before after = (FitsString signature × WritesCertificate (to_be_signed ++ flat (string signature)) n was len before after) ⊎ (IsWrong n (string_number signature) (FitsString signature) × (len ≡ was) × (after ≡ before))
