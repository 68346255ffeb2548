-- The formats of bytes, numbers and strings (RFC 4251, section 5).
use Rattle.std.specs.Prelude.{ℕ, ◌^◌, List, replicate, nat_lt, if◌then◌else◌}
use Rattle.std.specs.Int.{w8, w32, w64}
use Rattle.sshkey_model.specs.Parts.{Parts, Any, bytes, number, box, HasLength}
use Rattle.sshkey_model.specs.Reading.{whole, bytes_at, number_at, string_at, box_at}
use Rattle.sshkey_model.specs.Grammar.{Spells}
use Rattle.sshkey_model.specs.Formats.{Format}
use Rattle.sshkey_model.specs.Needs.{NoNeed, NeedsString}
use Rattle.sshkey_model.specs.Overruns.{NoOverrun, OverrunsString}
use Rattle.sshkey_model.specs.Texts.{string}

-- ---- numbers

abbrev pub SpellsByte : ℕ → List ℕ → Type 0
SpellsByte = Spells Any (number w8)

abbrev pub byte_format : Format ℕ
byte_format = record { Spells = SpellsByte; read = number_at w8; delimited_at = number_at w8; needs = NoNeed; overruns = NoOverrun }

-- of four bytes
abbrev pub SpellsNumber32 : ℕ → List ℕ → Type 0
SpellsNumber32 = Spells Any (number w32)

abbrev pub number32_format : Format ℕ
number32_format = record { Spells = SpellsNumber32; read = number_at w32; delimited_at = number_at w32; needs = NoNeed; overruns = NoOverrun }

-- of eight bytes
abbrev pub SpellsNumber64 : ℕ → List ℕ → Type 0
SpellsNumber64 = Spells Any (number w64)

abbrev pub number64_format : Format ℕ
number64_format = record { Spells = SpellsNumber64; read = number_at w64; delimited_at = number_at w64; needs = NoNeed; overruns = NoOverrun }

-- A count in four bytes. A count that needs more is spelled as a box of that many bytes, which does
-- not fit either.
unfoldable pub count : ℕ → Parts
count n = if nat_lt n (2 ^ 32) then number w32 n else box (bytes (replicate n 0))

-- ---- strings

abbrev pub SpellsString : List ℕ → List ℕ → Type 0
SpellsString = Spells Any string

abbrev pub string_format : Format (List ℕ)
string_format = record { Spells = SpellsString; read = string_at; delimited_at = string_at; needs = NeedsString; overruns = OverrunsString }

-- of n bytes
abbrev pub SpellsArray : ℕ → List ℕ → List ℕ → Type 0
SpellsArray n = Spells (HasLength n) string

abbrev pub array_format : ℕ → Format (List ℕ)
array_format n = record { Spells = SpellsArray n; read = box_at (whole (bytes_at n)); delimited_at = box_at (whole (bytes_at n)); needs = NoNeed; overruns = OverrunsString }
