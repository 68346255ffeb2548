-- What a line leaves in an output that may fail.
use Rattle.std.specs.Prelude.{◌≡◌, ◌⊎◌, ℕ, ◌<◌, List, length, take, Option, Bool, true, false, ◌≢◌, ◌==◌, get_or, [], ◌∷◌, ◌++◌, map, codes, None, Some, if◌then◌else◌, Result, IfOk, String, string_bytes}
use Rattle.std.specs.Io.KnownBytes.{Appends}
use Rattle.std.specs.Fmt.{decimal}
use denote.Ref.{Bor}
use Rattle.sshkey_model.specs.Certificates.{Certificate, CertificateType, User, Host, forever}
use Rattle.sshkey_model.specs.Lines.{key_line, key_name}
use Rattle.sshkey_model.specs.Options.{CertificateOption}
use Rattle.sshkey_model.specs.Principals.{Allows}
use Rattle.std.specs.List.{AllZip, list_any}
use Rattle.sshkey_entries.specs.Entries.{entries, IsNoEntry}

-- some of its beginning, and not all of it
abbrev pub IsBegun : Option (List ℕ) → Option (List ℕ) → List ℕ → Type 0
IsBegun old new line = (count : ℕ) × (count < length line) × Appends old new (take count line)

-- whether the line was written whole
abbrev pub WritesWhole : Option (List ℕ) → Option (List ℕ) → List ℕ → Bool → Type 0
WritesWhole old new line true = Appends old new line
WritesWhole old new line false = IsBegun old new line

-- A line is written whole with its status, or only a beginning of it is written and the status is
-- 1.
abbrev pub WritesWithStatus : Option (List ℕ) → Option (List ℕ) → List ℕ → ℕ → ℕ → Type 0
WritesWithStatus old new line wanted status = (Appends old new line × (status ≡ wanted)) ⊎ (IsBegun old new line × (status ≡ 1))

-- Lines, and what is shown of a certificate, line by line.

abbrev pub line_end : List ℕ
line_end = 10 ∷ []

-- a text of one line: no byte of it is a line end
abbrev pub HasNoLineEnd : List ℕ → Type 0
HasNoLineEnd text = (i : ℕ) → i < length text → get_or text i 0 ≢ 10

-- what says that something is refused, and why
abbrev pub refusal_line : List ℕ → List ℕ
refusal_line why = codes "refused: " ++ why

-- each line with its line end
abbrev pub in_lines : List (List ℕ) → List ℕ
in_lines [] = []
in_lines (line ∷ lines) = line ++ (line_end ++ in_lines lines)

-- It is these lines, unless memory ran out.
abbrev pub MakesLines : {Z E : Type 0} → List (List ℕ) → Result (String Z) E → Type 0
MakesLines lines r = IfOk r (λ s. string_bytes s ≡ in_lines lines)

abbrev pub type_word : CertificateType → List ℕ
type_word User = codes "user"
type_word Host = codes "host"

abbrev pub end_text : ℕ → List ℕ
end_text t = if t == forever then codes "forever" else decimal t

abbrev pub principal_line : List ℕ → List ℕ
principal_line p = codes "principal " ++ p

-- none is listed where all are valid
abbrev pub principal_lines : List (List ℕ) → List (List ℕ)
principal_lines [] = codes "principals any" ∷ []
principal_lines (p ∷ ps) = map principal_line (p ∷ ps)

abbrev pub option_line : List ℕ → CertificateOption → List ℕ
option_line kind o = kind ++ (codes " " ++ (o.name ++ (codes "=" ++ o.value)))

abbrev pub subject_lines : Certificate → List (List ℕ)
subject_lines c = (codes "algorithm " ++ key_name c.signed.key)
    ∷ (codes "type " ++ type_word c.signed.certificate_type)
    ∷ (codes "serial " ++ decimal c.signed.serial)
    ∷ (codes "key id " ++ c.signed.key_id)
    ∷ []

abbrev pub window_lines : Certificate → List (List ℕ)
window_lines c = (codes "valid after " ++ decimal c.signed.valid_after)
    ∷ (codes "valid before " ++ end_text c.signed.valid_before)
    ∷ []

abbrev pub field_lines : Certificate → List (List ℕ)
field_lines c = subject_lines c ++ window_lines c

-- The texts stand as they are, whatever characters they have.
abbrev pub certificate_lines : Certificate → List (List ℕ)
certificate_lines c = field_lines c
    ++ (principal_lines c.signed.valid_principals
    ++ (map (option_line (codes "critical option")) c.signed.critical_options
    ++ (map (option_line (codes "extension")) c.signed.extensions
    ++ ((codes "ca " ++ key_line c.signed.signature_key []) ∷ []))))

-- whether it allows that principal
abbrev pub SaysAllowed : Certificate → List ℕ → List ℕ → Type 0
SaysAllowed c wanted line =
    (Allows c wanted × (line ≡ codes "allows yes")) ⊎ ((Allows c wanted → ⊥) × (line ≡ codes "allows no"))

-- The text is these lines, and where a principal is wanted, whether it is allowed.
abbrev pub IsCertificateText : Option (Bor (List ℕ)) → Certificate → List ℕ → Type 0
IsCertificateText None c text = text ≡ in_lines (certificate_lines c)
IsCertificateText (Some wanted) c text =
    (line : List ℕ) × SaysAllowed c wanted.now line × (text ≡ in_lines (certificate_lines c) ++ (line ++ line_end))

-- What is shown of the entries of a file, line by line.

-- The text of the entry; or that it is refused, and a reason of one line. The second half says
-- whether it is.
abbrev pub ShowsEntry : {Y : Type 0} → (List ℕ → Y → Type 0) → (Y → List ℕ) → List ℕ → List ℕ × Bool → Type 0
ShowsEntry {Y} IsEntry text_of entry (line, false) = (y : Y) × IsEntry entry y × (line ≡ text_of y)
ShowsEntry IsEntry text_of entry (line, true) = IsNoEntry IsEntry entry × ((why : List ℕ) × HasNoLineEnd why × (line ≡ refusal_line why))

-- A line for each of the entries, in order, and whether one of them is refused.
pub record ShowsEntries {Y : Type 0} (IsEntry : List ℕ → Y → Type 0) (text_of : Y → List ℕ) (given : List (List ℕ)) (shown : List ℕ) (refused : Bool) : Type 0 where
  pub lines : List (List ℕ × Bool)
  pub each : AllZip (ShowsEntry IsEntry text_of) given lines
  pub is : shown ≡ in_lines (map (λ l. l.0) lines)
  pub some : refused ≡ list_any (λ l. l.1) lines

-- The same of the first entries of the text, before those that are left.
pub record ShowsFirst {Y : Type 0} (IsEntry : List ℕ → Y → Type 0) (text_of : Y → List ℕ) (text : List ℕ) (left : List (List ℕ)) (shown : List ℕ) (refused : Bool) : Type 0 where
  pub first : List (List ℕ)
  pub are : entries text ≡ first ++ left
  pub shows : ShowsEntries IsEntry text_of first shown refused
