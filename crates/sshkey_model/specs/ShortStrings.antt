-- Strings of at most `n` bytes (RFC 4251, section 5).
use Rattle.std.specs.Prelude.{◌≡◌, ℕ, List, length, true, Result, Ok, Err, nat_le, if◌then◌else◌}
use Rattle.sshkey_model.specs.Reading.{Fault, Length, Front, string_at, checked_at}
use Rattle.sshkey_model.specs.Grammar.{Spells}
use Rattle.sshkey_model.specs.Formats.{Format}
use Rattle.sshkey_model.specs.Needs.{NoNeed}
use Rattle.sshkey_model.specs.Overruns.{OverrunsString}
use Rattle.sshkey_model.specs.Texts.{string}

abbrev pub at_most : ℕ → List ℕ → Result (List ℕ) Fault
at_most n b = if nat_le (length b) n then Ok b else Err Length

unfoldable pub short_at : ℕ → Front (List ℕ)
short_at n = checked_at (at_most n) string_at

abbrev pub SpellsShort : ℕ → List ℕ → List ℕ → Type 0
SpellsShort n = Spells (λ b. nat_le (length b) n ≡ true) string

abbrev pub short_format : ℕ → Format (List ℕ)
short_format n = record { Spells = SpellsShort n; read = short_at n; delimited_at = short_at n; needs = NoNeed; overruns = OverrunsString }
