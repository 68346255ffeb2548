-- How a certificate is made: a draft is told its fields one after the other, and then signed.
use Rattle.std.specs.Prelude.{◌≡◌, ℕ, ◌<◌, ◌≤◌, ◌^◌, List, [], ◌∷◌, ◌++◌, Bool, Option, Some, None, Result, Ok, Err, nat_lt, if◌then◌else◌, Contains}
use Rattle.sshkey_model.specs.Parts.{flat}
use Rattle.sshkey_model.specs.Names.{Sha256}
use Rattle.sshkey_model.specs.Keys.{Key}
use Rattle.sshkey_model.specs.Options.{CertificateOption}
use Rattle.sshkey_model.specs.OptionMaps.{value_of, with_option}
use Rattle.sshkey_model.specs.Certificates.{CertificateType, User, SignedFields, Certificate, normal_to_be_signed, is_time}
use Rattle.sshkey_model.specs.Fingerprints.{Fingerprint, fingerprint}
use Rattle.sshkey_model.specs.Verification.{Question, IsAccepted}
use Rattle.sshkey_model.specs.Validity.{IsValid}

-- what it was told so far
pub record Draft : Type 0 where
  pub nonce : List ℕ
  pub key : Key
  pub serial : Option ℕ
  pub certificate_type : Option CertificateType
  pub key_id : Option (List ℕ)
  pub valid_principals : Option (List (List ℕ))
  pub valid_after : ℕ
  pub valid_before : ℕ
  pub critical_options : List CertificateOption
  pub extensions : List CertificateOption
  pub comment : Option (List ℕ)

-- nothing yet, but for what each certificate has
abbrev pub begun : List ℕ → Key → ℕ → ℕ → Draft
begun nonce key after before = record { nonce = nonce; key = key; serial = None; certificate_type = None; key_id = None; valid_principals = None; valid_after = after; valid_before = before; critical_options = []; extensions = []; comment = None }

-- the field that a refusal names
pub data DraftField : Type 0 where
  SerialField KindField KeyIdField PrincipalsField AfterField BeforeField CriticalField ExtensionsField CommentField : DraftField

-- the first of the two times that is none, or the end where it is before the beginning
abbrev pub bad_window : ℕ → ℕ → Option DraftField
bad_window after before =
    if is_time after
    then (if is_time before then (if nat_lt before after then Some BeforeField else None) else Some BeforeField)
    else Some AfterField

-- the same without an end
abbrev pub bad_start : ℕ → Option DraftField
bad_start after = if is_time after then None else Some AfterField

-- ---- step by step

pub data Step : Type 0 where
  Serial : ℕ → Step
  Kind : CertificateType → Step
  KeyId : List ℕ → Step
  Comment : List ℕ → Step
  -- one principal more, also after all of them were made valid
  Principal : List ℕ → Step
  -- all principals, whichever were named
  AllPrincipals : Step
  Critical : CertificateOption → Step
  Extension : CertificateOption → Step

abbrev pub or_default : {A : Type 0} → A → Option A → A
or_default d None = d
or_default d (Some x) = x

-- the draft, unless the field was set
abbrev pub once : {A : Type 0} → Option A → DraftField → Draft → Result Draft DraftField
once None field d = Ok d
once (Some x) field d = Err field

-- what a step makes of a draft, or the field that refuses it; then the draft stays as it is
abbrev pub after_step : Step → Draft → Result Draft DraftField
after_step (Serial n) d = once d.serial SerialField (record d { serial = Some n })
after_step (Kind k) d = once d.certificate_type KindField (record d { certificate_type = Some k })
after_step (KeyId t) d = once d.key_id KeyIdField (record d { key_id = Some t })
after_step (Comment t) d = once d.comment CommentField (record d { comment = Some t })
after_step (Principal p) d = Ok (record d { valid_principals = Some (or_default [] d.valid_principals ++ p ∷ []) })
after_step AllPrincipals d = Ok (record d { valid_principals = Some [] })
after_step (Critical o) d = once (value_of o.name d.critical_options) CriticalField (record d { critical_options = with_option o d.critical_options })
after_step (Extension o) d = once (value_of o.name d.extensions) ExtensionsField (record d { extensions = with_option o d.extensions })

abbrev pub or_stays : Draft → Result Draft DraftField → Draft
or_stays d (Ok e) = e
or_stays d (Err field) = d

-- all steps, the refused ones left out
abbrev pub after_steps : List Step → Draft → Draft
after_steps [] d = d
after_steps (s ∷ ss) d = after_steps ss (or_stays d (after_step s d))

-- ---- signed

-- the fields that are signed, with the defaults of those that were not set
abbrev pub drafted : Draft → Key → SignedFields
drafted d signature_key = record {
  nonce = d.nonce;
  key = d.key;
  serial = or_default 0 d.serial;
  certificate_type = or_default User d.certificate_type;
  key_id = or_default [] d.key_id;
  valid_principals = or_default [] d.valid_principals;
  valid_after = d.valid_after;
  valid_before = d.valid_before;
  critical_options = d.critical_options;
  extensions = d.extensions;
  reserved = [];
  signature_key = signature_key;
}

-- The certificate has the fields of the draft under the signer's key, and a signature of them that
-- is accepted.
pub record IsSignedDraft (accepts : Question → Bool) (k : Key) (d : Draft) (c : Certificate) : Type 0 where
  pub fields : c.signed ≡ drafted d k
  pub signature : IsAccepted accepts k (flat (normal_to_be_signed (drafted d k))) c.signature

-- It is valid at each time of its window, for whoever has that fingerprint.
abbrev pub IsValidThrough : (Question → Bool) → Fingerprint → Certificate → Type 0
IsValidThrough accepts print c = (fingerprints : List Fingerprint) (t : ℕ) → Contains fingerprints print → t < 2 ^ 63 → c.signed.valid_after ≤ t → t < c.signed.valid_before → IsValid accepts fingerprints t c

-- What is signed so is valid through its window, for whoever has the signer's fingerprint.
abbrev pub SignedIsValid : Type 0
SignedIsValid = (accepts : Question → Bool) (k : Key) (d : Draft) (c : Certificate) → IsSignedDraft accepts k d c → IsValidThrough accepts (fingerprint Sha256 k) c
