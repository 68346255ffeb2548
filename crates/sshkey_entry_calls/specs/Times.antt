-- What is answered of a time.
use Rattle.std.specs.Prelude.{◌≡◌, ℕ, List, Option, Some, None}
use Rattle.sshkey_matching.specs.Times.{ReadsTime}
use Rattle.sshkey_matching.specs.declared.times.Span.{Span}
use Rattle.sshkey_entry_calls.specs.declared.times.TimeSpan.{TimeSpan}

-- 0 and the seconds that it may mean; or 15.
abbrev pub TellsSpan : Option Span → ℕ → TimeSpan → Type 0
TellsSpan None n answer = n ≡ 15
TellsSpan (Some s) n answer = (n ≡ 0) × (answer.first ≡ s.first) × (answer.last ≡ s.last)

abbrev pub TellsTime : List ℕ → ℕ → TimeSpan → Type 0
TellsTime text n answer = (r : Option Span) × ReadsTime text r × TellsSpan r n answer
