-- What is answered of the string at a place.
use Rattle.std.specs.Prelude.{◌≡◌, ◌≢◌, ◌+◌, ℕ, List, length, drop, Ok, [], ◌↔◌, ◌≤◌, ◌++◌}
use Rattle.sshkey_model.specs.Reading.{string_at}
use Rattle.sshkey_calls.specs.Rooms.{bytes_of, IsPartOf, TellsOf}
use Rattle.sshkey_calls.specs.declared.part.Part.{Part}
use Rattle.sshkey_model.specs.Certificates.{Certificate, certificate_at, type_number, SpellsCertificate, certificate_type}
use Rattle.sshkey_calls.specs.declared.fields.CertificateFields.{CertificateFields}
use Rattle.std.specs.Int.{w64}
use Rattle.sshkey_cert_ref.specs.Lists.{SpellsEachOption, SpellsEachText}
use Rattle.sshkey_model.specs.CertificateNames.{certificate_algorithm}
use Rattle.sshkey_model.specs.Keys.{body, key_algorithm, SpellsKey}
use Rattle.sshkey_model.specs.Options.{CertificateOption, Nesting, HasNesting, option}
use Rattle.sshkey_model.specs.Parts.{Parts, ◌&◌, flat, number, Fits}
use Rattle.sshkey_model.specs.Texts.{string}
use Rattle.sshkey_calls.specs.declared.lists.CertificateParts.{CertificateParts}
use Rattle.sshkey_calls.specs.declared.option.OptionParts.{OptionParts}

-- 0 and the content of the string that begins there, 3 exactly at the end of the bytes, and 13
-- where no string begins. But for 0, the answer stays as it was.
pub record FindsString (bytes : List ℕ) (place n : ℕ) (was part : Part) : Type 0 where
  pub found : n ≡ 0 → string_at (drop place bytes) ≡ Ok (bytes_of part bytes, drop (part.start + part.length) bytes)
  pub within : n ≡ 0 → IsPartOf part bytes
  pub last : n ≡ 3 → place ≡ length bytes
  pub at_end : place ≡ length bytes → n ≡ 3
  pub none : n ≢ 0 → (x : List ℕ × List ℕ) → string_at (drop place bytes) ≢ Ok x
  pub others : n ≢ 0 → n ≢ 3 → n ≡ 13
  pub stays : n ≢ 0 → part ≡ was

-- What is answered of the fields of a certificate (PROTOCOL.certkeys).

-- 1 where this holds, and else 0
abbrev pub IsNumberOf : Type 0 → ℕ → Type 0
IsNumberOf holds n = (holds → n ≡ 1) × ((holds → ⊥) → n ≡ 0)

-- They are those of the certificate.
pub record AreFieldsOf (c : Certificate) (f : CertificateFields) : Type 0 where
  pub serial : f.serial ≡ c.signed.serial
  pub valid_after : f.valid_after ≡ c.signed.valid_after
  pub valid_before : f.valid_before ≡ c.signed.valid_before
  pub certificate_type : f.certificate_type ≡ type_number c.signed.certificate_type
  pub lists_principals : IsNumberOf (c.signed.valid_principals ≢ []) f.lists_principals
  pub has_critical_options : IsNumberOf (c.signed.critical_options ≢ []) f.has_critical_options

-- 0 and the fields of the certificate that the bytes spell.
abbrev pub GivesFields : List ℕ → ℕ → CertificateFields → CertificateFields → Type 0
GivesFields bytes n was f = TellsOf SpellsCertificate certificate_at bytes (λ c. (n ≡ 0) × AreFieldsOf c f) n (f ≡ was)

-- Where the parts of a certificate stand in its bytes (PROTOCOL.certkeys).

-- the bytes spell the options, one after the other, empty values in either way
abbrev pub SpellsOptionList : List CertificateOption → List ℕ → Type 0
SpellsOptionList os bytes = (nestings : List Nesting) × SpellsEachOption (os, nestings) bytes

-- all that a certificate begins with, before its key id
abbrev pub beginning : Certificate → Parts
beginning c = certificate_algorithm (key_algorithm c.signed.key)
    & string c.signed.nonce
    & body c.signed.key
    & number w64 c.signed.serial
    & certificate_type c.signed.certificate_type

abbrev pub part_end : Part → ℕ
part_end part = part.start + part.length

-- Each part follows its length, of four bytes. In order: all that the certificate begins with, the
-- key id, the principals, the window of sixteen bytes, the critical options, the extensions, the
-- reserved string, the authority's key.
pub record ArePlaced (c : Certificate) (p : CertificateParts) : Type 0 where
  pub key_id : p.key_id.start ≡ length (flat (beginning c)) + 4
  pub principals : p.principals.start ≡ part_end p.key_id + 4
  pub critical_options : p.critical_options.start ≡ part_end p.principals + 16 + 4
  pub extensions : p.extensions.start ≡ part_end p.critical_options + 4
  pub authority : p.authority.start ≡ part_end p.extensions + 4 + length c.signed.reserved + 4

-- Each part has that field of the certificate, and stands in its place.
pub record ArePartsOf (c : Certificate) (bytes : List ℕ) (p : CertificateParts) : Type 0 where
  pub key_id : bytes_of p.key_id bytes ≡ c.signed.key_id
  pub principals : SpellsEachText c.signed.valid_principals (bytes_of p.principals bytes)
  pub critical_options : SpellsOptionList c.signed.critical_options (bytes_of p.critical_options bytes)
  pub extensions : SpellsOptionList c.signed.extensions (bytes_of p.extensions bytes)
  pub authority : SpellsKey c.signed.signature_key (bytes_of p.authority bytes)
  pub placed : ArePlaced c p
  pub within : IsPartOf p.key_id bytes × IsPartOf p.principals bytes × IsPartOf p.critical_options bytes × IsPartOf p.extensions bytes × IsPartOf p.authority bytes

-- 0 and the parts of the certificate that the bytes spell.
abbrev pub GivesParts : List ℕ → ℕ → CertificateParts → CertificateParts → Type 0
GivesParts bytes n was p = TellsOf SpellsCertificate certificate_at bytes (λ c. (n ≡ 0) × ArePartsOf c bytes p) n (p ≡ was)

-- What is answered of the option at a place (PROTOCOL.certkeys).

-- The bytes begin with that name and that value, and the rest follows them.
pub record BeginsWithOption (name value : List ℕ) (bytes rest : List ℕ) : Type 0 where
  pub nesting : Nesting
  pub place : HasNesting value nesting
  pub fits : Fits (option (record { name = name; value = value }) nesting)
  pub all : bytes ≡ flat (option (record { name = name; value = value }) nesting) ++ rest

-- 0 and the name and the value of the option that begins there, the name after its length of four
-- bytes and the value last. 3 exactly at the end of the bytes, and 13 where none begins. But for 0,
-- the answer stays as it was.
pub record FindsOption (bytes : List ℕ) (place n : ℕ) (was o : OptionParts) : Type 0 where
  pub found : n ≡ 0 → BeginsWithOption (bytes_of o.name bytes) (bytes_of o.value bytes) (drop place bytes) (drop o.next bytes)
  pub within : n ≡ 0 → IsPartOf o.name bytes × IsPartOf o.value bytes × (o.next ≤ length bytes)
  pub placed : n ≡ 0 → (o.name.start ≡ place + 4) × (o.value.start + o.value.length ≡ o.next)
  pub end_ : (n ≡ 3) ↔ (place ≡ length bytes)
  pub none : n ≢ 0 → (name value rest : List ℕ) → BeginsWithOption name value (drop place bytes) rest → ⊥
  pub others : n ≢ 0 → n ≢ 3 → n ≡ 13
  pub stays : n ≢ 0 → o ≡ was
