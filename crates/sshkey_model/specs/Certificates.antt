-- Certificates (PROTOCOL.certkeys).
use Rattle.std.specs.Prelude.{◌≡◌, ℕ, ◌^◌, List, Bool, true, Result, Ok, Err, nat_lt, ◌==◌, if◌then◌else◌, ◌-◌, ◌||◌}
use Rattle.std.specs.Int.{w32, w64}
use Rattle.std.specs.List.{AllByRecursion}
use Rattle.sshkey_model.specs.Parts.{Parts, number, box, ◌&◌}
use Rattle.sshkey_model.specs.Reading.{Fault, FormatEncoding, Time, Front}
use Rattle.sshkey_model.specs.Grammar.{SpellsAs, SpellsWith}
use Rattle.sshkey_model.specs.Formats.{Format}
use Rattle.sshkey_model.specs.Leaves.{number32_format, number64_format, string_format}
use Rattle.sshkey_model.specs.Terms.{◌then◌, boxed, dependent, known_as, tested}
use Rattle.sshkey_model.specs.Texts.{string, IsText, text_format, texts, texts_format}
use Rattle.sshkey_model.specs.Names.{Algorithm}
use Rattle.sshkey_model.specs.CertificateNames.{IsCertified, certificate_algorithm, certified_format}
use Rattle.sshkey_model.specs.Keys.{Key, key_algorithm, body, IsBody, body_format, Head, Plain, HasKeyPlaces, IsKey, key, key_format, spelled_key_format}
use Rattle.sshkey_model.specs.Signatures.{Signature, IsSignature, signature, signature_format}
use Rattle.sshkey_model.specs.Options.{CertificateOption, AreOptions, Nesting, HasOptionPlaces, plain_nestings, options, options_format, spelled_options_format}

pub data CertificateType : Type 0 where
  User Host : CertificateType

abbrev pub type_number : CertificateType → ℕ
type_number User = 1
type_number Host = 2

abbrev pub certificate_type : CertificateType → Parts
certificate_type k = number w32 (type_number k)

-- all that the signature is over
pub record SignedFields : Type 0 where
  pub nonce : List ℕ
  pub key : Key
  pub serial : ℕ
  pub certificate_type : CertificateType
  pub key_id : List ℕ
  pub valid_principals : List (List ℕ)
  pub valid_after : ℕ
  pub valid_before : ℕ
  pub critical_options : List CertificateOption
  pub extensions : List CertificateOption
  pub reserved : List ℕ
  pub signature_key : Key

pub record Certificate : Type 0 where
  pub signed : SignedFields
  pub signature : Signature

-- one choice for each option, and one for the name of the signature key
pub record CertificateChoices : Type 0 where
  pub critical_options : List Nesting
  pub extensions : List Nesting
  pub signature_key : Head

abbrev pub to_be_signed : SignedFields → CertificateChoices → Parts
to_be_signed c s = certificate_algorithm (key_algorithm c.key)
    & string c.nonce
    & body c.key
    & number w64 c.serial
    & certificate_type c.certificate_type
    & string c.key_id
    & texts c.valid_principals
    & number w64 c.valid_after
    & number w64 c.valid_before
    & options c.critical_options s.critical_options
    & options c.extensions s.extensions
    & string c.reserved
    & box (key c.signature_key s.signature_key)

abbrev pub certificate : Certificate → CertificateChoices → Parts
certificate c s = to_be_signed c.signed s & box (signature c.signature)

-- ---- well-formed

-- seconds since 1970, up to 2^63 - 1
abbrev pub is_time : ℕ → Bool
is_time t = nat_lt t (2 ^ 63)

abbrev pub IsTime : ℕ → Type 0
IsTime t = is_time t ≡ true

-- the end of a certificate that has none
abbrev pub forever : ℕ
forever = 2 ^ 64 - 1

-- a time, or no end
abbrev pub is_end : ℕ → Bool
is_end t = is_time t || t == forever

abbrev pub IsEnd : ℕ → Type 0
IsEnd t = is_end t ≡ true

pub record AreSignedFields (c : SignedFields) : Type 0 where
  pub name : IsCertified (key_algorithm c.key)
  pub key : IsBody c.key
  pub key_id : IsText c.key_id
  pub valid_principals : AllByRecursion IsText c.valid_principals
  pub valid_after : IsTime c.valid_after
  pub valid_before : IsEnd c.valid_before
  pub critical_options : AreOptions c.critical_options
  pub extensions : AreOptions c.extensions
  pub signature_key : IsKey c.signature_key

abbrev pub IsCertificate : Certificate → Type 0
IsCertificate c = AreSignedFields c.signed × IsSignature c.signature

-- ---- choices in their places

pub record HaveSignedPlaces (c : SignedFields) (s : CertificateChoices) : Type 0 where
  pub critical_options : HasOptionPlaces c.critical_options s.critical_options
  pub extensions : HasOptionPlaces c.extensions s.extensions
  pub signature_key : HasKeyPlaces c.signature_key s.signature_key

abbrev pub HasCertificatePlaces : Certificate → CertificateChoices → Type 0
HasCertificatePlaces c s = HaveSignedPlaces c.signed s

abbrev pub plain_choices : SignedFields → CertificateChoices
plain_choices c = record { critical_options = plain_nestings c.critical_options; extensions = plain_nestings c.extensions; signature_key = Plain }

abbrev pub normal_to_be_signed : SignedFields → Parts
normal_to_be_signed c = to_be_signed c (plain_choices c)

abbrev pub normal_certificate : Certificate → Parts
normal_certificate c = certificate c (plain_choices c.signed)

-- ---- reading

abbrev pub type_from : ℕ → Result CertificateType Fault
type_from n = if n == 1 then Ok User else if n == 2 then Ok Host else Err FormatEncoding

abbrev pub type_format : Format CertificateType
type_format = tested type_from number32_format

abbrev pub type_at : Front CertificateType
type_at = type_format.read

abbrev pub time_from : ℕ → Result ℕ Fault
time_from t = if is_time t then Ok t else Err Time

abbrev pub end_from : ℕ → Result ℕ Fault
end_from t = if is_end t then Ok t else Err Time

abbrev pub time_format : Format ℕ
time_format = tested time_from number64_format

abbrev pub time_at : Front ℕ
time_at = time_format.read

abbrev pub end_format : Format ℕ
end_format = tested end_from number64_format

abbrev pub end_at : Front ℕ
end_at = end_format.read

-- ---- as a format: the fields of PROTOCOL.certkeys, in their order

abbrev pub Fields : Type 0 → Type 0 → Type 0
Fields O K = Algorithm × (List ℕ × (Key × (ℕ × (CertificateType × (List ℕ × (List (List ℕ) × (ℕ × (ℕ × (O × (O × (List ℕ × K)))))))))))

-- Options and the signature key are of the formats that are given: with the choices of their
-- spelling, or without.
abbrev pub fields_format : {O K : Type 0} → Format O → Format K → Format (Fields O K)
fields_format option_list signer = dependent certified_format (λ name.
    string_format  -- nonce
    then body_format name  -- the key, as its algorithm has it
    then number64_format  -- serial
    then type_format  -- type
    then text_format  -- key id
    then texts_format  -- valid principals
    then time_format  -- valid after
    then end_format  -- valid before
    then option_list  -- critical options
    then option_list  -- extensions
    then string_format  -- reserved
    then boxed signer)  -- signature key

abbrev pub signed_fields_from : Fields (List CertificateOption) Key → Result SignedFields Fault
signed_fields_from (name, (nonce, (key, (serial, (kind, (key_id, (principals, (after, (before, (critical, (extensions, (reserved, signer)))))))))))) = Ok (record { nonce = nonce; key = key; serial = serial; certificate_type = kind; key_id = key_id; valid_principals = principals; valid_after = after; valid_before = before; critical_options = critical; extensions = extensions; reserved = reserved; signature_key = signer })

abbrev pub to_be_signed_format : Format SignedFields
to_be_signed_format = tested signed_fields_from (fields_format options_format key_format)

abbrev pub certificate_from : SignedFields × Signature → Result Certificate Fault
certificate_from (fields, signature) = Ok (record { signed = fields; signature = signature })

-- the fields, and the signature over them
abbrev pub signed_format : Format (SignedFields × Signature)
signed_format = to_be_signed_format then boxed signature_format

abbrev pub certificate_format : Format Certificate
certificate_format = tested certificate_from signed_format

-- ---- with the choices of the spelling

abbrev pub spelled_fields_from : Fields (List CertificateOption × List Nesting) (Key × Head) → Result (SignedFields × CertificateChoices) Fault
spelled_fields_from (name, (nonce, (key, (serial, (kind, (key_id, (principals, (after, (before, (critical, (extensions, (reserved, signer)))))))))))) = Ok (
  record { nonce = nonce; key = key; serial = serial; certificate_type = kind; key_id = key_id; valid_principals = principals; valid_after = after; valid_before = before; critical_options = critical.0; extensions = extensions.0; reserved = reserved; signature_key = signer.0 },
  record { critical_options = critical.1; extensions = extensions.1; signature_key = signer.1 },
)

abbrev spelled_fields : Format (SignedFields × CertificateChoices)
spelled_fields = tested spelled_fields_from (fields_format spelled_options_format spelled_key_format)

unfoldable pub signed_fields_at : Front (SignedFields × CertificateChoices)
signed_fields_at = spelled_fields.read

abbrev pub spelled_fields_format : Format (SignedFields × CertificateChoices)
spelled_fields_format = known_as spelled_fields (SpellsAs AreSignedFields HaveSignedPlaces to_be_signed) signed_fields_at

abbrev pub spelled_certificate_from : (SignedFields × CertificateChoices) × Signature → Result (Certificate × CertificateChoices) Fault
spelled_certificate_from (fields, signature) = Ok (record { signed = fields.0; signature = signature }, fields.1)

unfoldable pub certificate_at : Front (Certificate × CertificateChoices)
certificate_at = (tested spelled_certificate_from (spelled_fields_format then boxed signature_format)).read

-- ---- which bytes spell them

-- all but the signature
abbrev pub SpellsToBeSigned : SignedFields → List ℕ → Type 0
SpellsToBeSigned = SpellsWith AreSignedFields HaveSignedPlaces to_be_signed

abbrev pub SpellsCertificate : Certificate → List ℕ → Type 0
SpellsCertificate = SpellsWith IsCertificate HasCertificatePlaces certificate
