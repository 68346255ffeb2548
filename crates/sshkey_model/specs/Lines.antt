-- Lines of a text, as OpenSSH writes public keys: a first word, a blob in Base64 (RFC 4648, section
-- 4) and a comment, with a space between.
use Rattle.std.specs.Prelude.{◌≡◌, ◌≢◌, ℕ, ◌<◌, ◌||◌, ◌==◌, true, Bool, List, [], ◌∷◌, ◌++◌, length, EachIndex, slice_index}
use Rattle.std.specs.Char.{is_ascii_alphanumeric}
use Rattle.std.specs.Str.{trim_end}
use Rattle.base64.specs.Engines.{standard}
use Rattle.base64.specs.GeneralPurpose.{encode_of}
use Rattle.sshkey_model.specs.Parts.{Parts, flat, are_bytes}
use Rattle.sshkey_model.specs.Texts.{IsText}
use Rattle.sshkey_model.specs.Names.{algorithm_name}
use Rattle.sshkey_model.specs.CertificateNames.{certificate_name}
use Rattle.sshkey_model.specs.Keys.{Key, key_algorithm, normal_key, SpellsKey}
use Rattle.sshkey_model.specs.Certificates.{Certificate, normal_certificate, SpellsCertificate}

abbrev pub space : ℕ
space = 0x20

-- an empty comment has no space before it
abbrev pub after_space : List ℕ → List ℕ
after_space [] = []
after_space (c ∷ rest) = space ∷ c ∷ rest

-- two words and a comment
abbrev pub joined : List ℕ → List ℕ → List ℕ → List ℕ
joined first word comment = first ++ (space ∷ (word ++ after_space comment))

-- the line of a first word, a blob and a comment
abbrev pub written : List ℕ → List ℕ → List ℕ → List ℕ
written first blob comment = joined first (encode_of standard blob) comment

-- A letter, a digit, or one of `+`, `-`, `/`, `=`, `@` and `.`.
abbrev pub is_word_character : ℕ → Bool
is_word_character c = is_ascii_alphanumeric c || c == 0x2b || c == 0x2d || c == 0x2f || c == 0x3d || c == 0x40 || c == 0x2e

abbrev pub HasWordCharacters : List ℕ → Type 0
HasWordCharacters word = EachIndex word (λ i. is_word_character (slice_index word i) ≡ true)

-- The character stands nowhere in the text.
abbrev pub IsWithout : ℕ → List ℕ → Type 0
IsWithout c text = EachIndex text (λ i. slice_index text i ≢ c)

-- The text, without the white space at its end, is two words and a comment; neither word is empty
-- or holds a space.
pub record IsCut (text first word comment : List ℕ) : Type 0 where
  pub is : trim_end text ≡ joined first word comment
  pub some_first : 0 < length first
  pub some_word : 0 < length word
  pub characters : HasWordCharacters first
  pub one_word : IsWithout space word

-- What may stand in a line: a spelling is some bytes, and of one value.
pub record IsBlob {V : Type 0} (Spelling : V → List ℕ → Type 0) : Type 0 where
  pub bytes : (value : V) (blob : List ℕ) → Spelling value blob → are_bytes blob ≡ true
  pub some : (value : V) (blob : List ℕ) → Spelling value blob → 0 < length blob
  pub one : (v w : V) (blob : List ℕ) → Spelling v blob → Spelling w blob → v ≡ w

-- A text that, without the white space at its end, is the line of that first word, blob and
-- comment.
pub record IsLine (text first blob comment : List ℕ) : Type 0 where
  pub utf8 : IsText text
  pub is : trim_end text ≡ written first blob comment
  pub some_first : 0 < length first
  pub some_blob : 0 < length blob
  pub characters : HasWordCharacters first

-- The text is a line of the value with that comment: the first word is the value's, and the blob
-- spells it.
pub record IsLineOf {V : Type 0} (first : V → List ℕ) (Spelling : V → List ℕ → Type 0) (text : List ℕ) (value : V) (comment : List ℕ) : Type 0 where
  pub blob : List ℕ
  pub spelled : Spelling value blob
  pub line : IsLine text (first value) blob comment

-- The text is a line of no value.
abbrev pub IsNoLine : {V : Type 0} → (V → List ℕ) → (V → List ℕ → Type 0) → List ℕ → Type 0
IsNoLine {V} first Spelling text = (value : V) (comment : List ℕ) → IsLineOf first Spelling text value comment → ⊥

-- ---- keys and certificates

-- A key's first word is the name of its algorithm.
abbrev pub key_name : Key → List ℕ
key_name k = algorithm_name (key_algorithm k)

abbrev pub IsKeyLine : List ℕ → Key → List ℕ → Type 0
IsKeyLine = IsLineOf key_name SpellsKey

-- the line of no key
abbrev pub IsNoKeyLine : List ℕ → Type 0
IsNoKeyLine = IsNoLine key_name SpellsKey

-- the line of a key and a comment
abbrev pub key_line : Key → List ℕ → List ℕ
key_line k comment = written (key_name k) (flat (normal_key k)) comment

-- That of a certificate is its name there.
abbrev pub name_of_certificate : Certificate → List ℕ
name_of_certificate c = certificate_name (key_algorithm c.signed.key)

abbrev pub IsCertificateLine : List ℕ → Certificate → List ℕ → Type 0
IsCertificateLine = IsLineOf name_of_certificate SpellsCertificate

-- the line of a certificate and a comment
abbrev pub certificate_line : Certificate → List ℕ → List ℕ
certificate_line c comment = written (name_of_certificate c) (flat (normal_certificate c)) comment

-- ---- what the laws say

-- A text is a line of one value at most, and with one comment.
unfoldable pub LinesDetermineValues : {V : Type 0} → (V → List ℕ) → (V → List ℕ → Type 0) → Type 0
LinesDetermineValues {V} first Spelling = (text m n : List ℕ) (v w : V) → IsLineOf first Spelling text v m → IsLineOf first Spelling text w n → (v ≡ w) × (m ≡ n)

-- What is read of a line is written as a line that is read back.
unfoldable pub LinesReadBack : {V : Type 0} → (V → List ℕ) → (V → List ℕ → Type 0) → (V → Parts) → Type 0
LinesReadBack {V} first Spelling normal = (text comment : List ℕ) (v : V) → IsLineOf first Spelling text v comment → IsLineOf first Spelling (written (first v) (flat (normal v)) comment) v comment

-- No text is a line of a key and one of a certificate.
unfoldable pub LinesAreApart : Type 0
LinesAreApart = (text m n : List ℕ) (k : Key) (c : Certificate) → IsKeyLine text k m → IsCertificateLine text c n → ⊥
