-- Strings, texts and lists of texts (RFC 4251, section 5).
use Rattle.std.specs.Prelude.{◌≡◌, ℕ, List, true, Result, Ok, Err, if◌then◌else◌}
use Rattle.std.specs.List.{AllByRecursion}
use Rattle.std.specs.Str.{is_utf8}
use Rattle.sshkey_model.specs.Parts.{Parts, bytes, box, each}
use Rattle.sshkey_model.specs.Reading.{Fault, CharacterEncoding, Front, Whole, string_at, box_at, checked_at, list_whole}
use Rattle.sshkey_model.specs.Grammar.{Spells}
use Rattle.sshkey_model.specs.Formats.{Format}
use Rattle.sshkey_model.specs.Needs.{NeedsBoxed, NeedsFirst, NeedsString}
use Rattle.sshkey_model.specs.Overruns.{OverrunsBoxed, OverrunsList, OverrunsString}

-- A string is any bytes in a box.
abbrev pub string : List ℕ → Parts
string b = box (bytes b)

-- ---- texts

-- A text is bytes that are UTF-8, spelled as a string.
abbrev pub IsText : List ℕ → Type 0
IsText b = is_utf8 b ≡ true

abbrev pub SpellsText : List ℕ → List ℕ → Type 0
SpellsText = Spells IsText string

abbrev pub text_from : List ℕ → Result (List ℕ) Fault
text_from b = if is_utf8 b then Ok b else Err CharacterEncoding

unfoldable pub text_at : Front (List ℕ)
text_at = checked_at text_from string_at

abbrev pub text_format : Format (List ℕ)
text_format = record { Spells = SpellsText; read = text_at; delimited_at = text_at; needs = NeedsString; overruns = OverrunsString }

-- ---- lists of texts

-- A list of texts is one box of all of them.
abbrev pub texts : List (List ℕ) → Parts
texts ts = box (each string ts)

abbrev pub SpellsTexts : List (List ℕ) → List ℕ → Type 0
SpellsTexts = Spells (AllByRecursion IsText) texts

-- texts up to the end
abbrev pub text_list_at : Whole (List (List ℕ))
text_list_at = list_whole (λ before. text_at)

unfoldable pub texts_at : Front (List (List ℕ))
texts_at = box_at text_list_at

-- The first text has bytes, or stands there.
abbrev pub NeedsTexts : List ℕ → ℕ → Type 0
NeedsTexts = NeedsFirst NeedsString text_at

abbrev pub texts_format : Format (List (List ℕ))
texts_format = record { Spells = SpellsTexts; read = texts_at; delimited_at = texts_at; needs = NeedsBoxed NeedsTexts; overruns = OverrunsBoxed (OverrunsList (λ before. text_at) OverrunsString) }
