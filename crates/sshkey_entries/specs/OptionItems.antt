-- The options before a key as items (sshd(8), "AUTHORIZED_KEYS FILE FORMAT"): comma-separated
-- option specifications, without spaces but within double quotes. Each is a keyword, or a keyword,
-- `=` and a value in double quotes, in which a quote follows a backslash. OpenSSH passes over
-- commas that stand in a row, or at either end.
use Rattle.std.specs.Prelude.{◌≡◌, ◌⊎◌, ℕ, ◌<◌, List, [], ◌∷◌, ◌++◌, length, map, slice_index, EachIndex, Bool, true, false, not, ◌&&◌, ◌||◌, ◌==◌, if◌then◌else◌, Option, Some, None}
use Rattle.std.specs.Char.{to_ascii_lowercase}
use Rattle.sshkey_entries.specs.Fields.{without_front, is_blank, is_plain_quote}
use Rattle.sshkey_entries.specs.Items.{is_comma, is_quote}
use denote.Ref.{Bor}

pub record KeyOption : Type 0 where
  pub name : List ℕ
  pub value : Option (List ℕ)

abbrev pub quote : ℕ
quote = 0x22

abbrev pub equals_sign : ℕ
equals_sign = 0x3d

abbrev pub backslash : ℕ
backslash = 0x5c

-- none of comma, double quote, equals sign, space and tab
abbrev pub is_name_character : ℕ → Bool
is_name_character c = not (is_comma c || is_quote c || c == equals_sign || is_blank c)

abbrev pub AreNameCharacters : List ℕ → Type 0
AreNameCharacters text = EachIndex text (λ i. is_name_character (slice_index text i) ≡ true)

-- ---- values

-- Each quote in the text follows a backslash, and one after the text does not.
pub record IsQuoted (text : List ℕ) : Type 0 where
  pub inner : (i : ℕ) → i < length text → is_plain_quote text i ≡ false
  pub ends : is_plain_quote (text ++ (quote ∷ [])) (length text) ≡ true

-- the text without each backslash that stands before a quote; every other backslash stands for
-- itself
unfoldable pub unescaped : List ℕ → List ℕ
unescaped [] = []
unescaped (c ∷ text) = if c == backslash && is_quote (slice_index text 0) then unescaped text else c ∷ unescaped text

-- No value stands before the rest; or `=` and the value in quotes.
abbrev pub IsValueAt : List ℕ → Option (List ℕ) → List ℕ → Type 0
IsValueAt text None rest = text ≡ rest
IsValueAt text (Some value) rest = (quoted : List ℕ) × (text ≡ equals_sign ∷ quote ∷ (quoted ++ (quote ∷ rest))) × IsQuoted quoted × (value ≡ unescaped quoted)

-- ---- options

-- An option ends here: nothing follows, or a comma.
abbrev pub EndsOption : List ℕ → Type 0
EndsOption text = (text ≡ []) ⊎ (is_comma (slice_index text 0) ≡ true)

-- The option stands before the rest.
pub record IsOptionAt (text : List ℕ) (o : KeyOption) (rest : List ℕ) : Type 0 where
  pub after : List ℕ
  pub is : text ≡ o.name ++ after
  pub some : 0 < length o.name
  pub characters : AreNameCharacters o.name
  pub value : IsValueAt after o.value rest
  pub ends : EndsOption rest

-- No option stands at the front.
abbrev pub IsNoOption : List ℕ → Type 0
IsNoOption text = (o : KeyOption) (rest : List ℕ) → IsOptionAt text o rest → ⊥

-- the text without the commas at its front
abbrev pub without_commas : List ℕ → List ℕ
without_commas = without_front is_comma

-- The text is these options, one after the other.
abbrev pub AreKeyOptions : List ℕ → List KeyOption → Type 0
AreKeyOptions text [] = without_commas text ≡ []
AreKeyOptions text (o ∷ more) = (rest : List ℕ) × IsOptionAt (without_commas text) o rest × AreKeyOptions rest more

-- The text is some options.
abbrev pub HasKeyOptions : List ℕ → Type 0
HasKeyOptions text = (options : List KeyOption) × AreKeyOptions text options

-- The names are the same, letters of ASCII without case (sshd(8): option keywords are
-- case-insensitive).
abbrev pub IsSameName : List ℕ → List ℕ → Type 0
IsSameName a b = map to_ascii_lowercase a ≡ map to_ascii_lowercase b

-- ---- what options say

-- Each adds to what those before it say.
abbrev pub AddAll : {Y : Type 0} → (List ℕ → Option (List ℕ) → Y → Y → Type 0) → List KeyOption → Y → Y → Type 0
AddAll Adds [] s t = t ≡ s
AddAll {Y} Adds (o ∷ more) s t = (between : Y) × Adds o.name o.value s between × AddAll Adds more between t

-- The text is options that add this to what is said.
abbrev pub Says : {Y : Type 0} → (List ℕ → Option (List ℕ) → Y → Y → Type 0) → Y → List ℕ → Y → Type 0
Says Adds s text t = (options : List KeyOption) × AreKeyOptions text options × AddAll Adds options s t

-- The options stand at the front of the text, one after the other.
abbrev pub StandFirst : List ℕ → List KeyOption → Type 0
StandFirst text [] = Unit {0}
StandFirst text (o ∷ more) = (rest : List ℕ) × IsOptionAt (without_commas text) o rest × StandFirst rest more

-- Each adds to what those before it say, up to one that may be read.
abbrev pub MayAdd : {Y : Type 0} → (List ℕ → Option (List ℕ) → Y → Y → Type 0) → (List ℕ → Option (List ℕ) → Type 0) → List KeyOption → Y → Type 0
MayAdd Adds MayBe [] s = ⊥
MayAdd {Y} Adds MayBe (o ∷ more) s = MayBe o.name o.value ⊎ ((between : Y) × Adds o.name o.value s between × MayAdd Adds MayBe more between)

-- Such options stand at the front of the text.
abbrev pub MaySay : {Y : Type 0} → (List ℕ → Option (List ℕ) → Y → Y → Type 0) → (List ℕ → Option (List ℕ) → Type 0) → Y → List ℕ → Type 0
MaySay Adds MayBe s text = (options : List KeyOption) × StandFirst text options × MayAdd Adds MayBe options s

-- What names in a table stand for.

-- a row of the table that the code has
abbrev pub row_of : {W : Type 0} → Bor (List ℕ) × W → List ℕ × W
row_of row = (row.0.now, row.1)

-- The name is the first of these that is the same, letters in either case.
abbrev pub Names : {W : Type 0} → List (List ℕ × W) → List ℕ → W → Type 0
Names [] name w = ⊥
Names (row ∷ more) name w = (IsSameName name row.0 × (w ≡ row.1)) ⊎ ((IsSameName name row.0 → ⊥) × Names more name w)

abbrev pub FindsWord : {W : Type 0} → List (List ℕ × W) → List ℕ → Option W → Type 0
FindsWord {W} table name None = (w : W) → Names table name w → ⊥
FindsWord {W} table name (Some w) = Names table name w
