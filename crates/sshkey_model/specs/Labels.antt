-- A name that is spelled as a string (RFC 4251, section 6).
use Rattle.std.specs.Prelude.{ℕ, List}
use Rattle.sshkey_model.specs.Reading.{Front, Whole, string_at, checked_at}
use Rattle.sshkey_model.specs.Grammar.{Spells}
use Rattle.sshkey_model.specs.Formats.{Format}
use Rattle.sshkey_model.specs.Overruns.{OverrunsString}
use Rattle.sshkey_model.specs.Texts.{string}

-- a string that is looked up
unfoldable pub label_at : {N : Type 0} → Whole N → Front N
label_at named = checked_at named string_at

-- `needs` says where its value keeps memory
abbrev pub label_format : {N : Type 0} → (N → Type 0) → (N → List ℕ) → Whole N → (List ℕ → ℕ → Type 0) → Format N
label_format Is name named needs = record { Spells = Spells Is (λ n. string (name n)); read = label_at named; delimited_at = label_at named; needs = needs; overruns = OverrunsString }
