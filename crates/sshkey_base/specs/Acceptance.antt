-- What an answer says of what was given, both ways.
use Rattle.std.specs.Prelude.{◌≢◌, ℕ, List, Result, Ok, Err}
use Rattle.sshkey_base.specs.declared.error.Error.{Error}
use Rattle.sshkey_base.specs.declared.error.Error.TheVariants.{Memory}

-- Out of memory aside, Ok exactly if this holds.
abbrev pub AcceptsExactly : {T : Type 0} → Type 0 → Result T Error → Type 0
AcceptsExactly Holds (Ok x) = Holds
AcceptsExactly Holds (Err e) = e ≢ Memory → Holds → ⊥

-- All the bytes spell some value.
abbrev pub SpellsSome : {Y : Type 0} → (Y → List ℕ → Type 0) → List ℕ → Type 0
SpellsSome {Y} Spells bytes = (y : Y) × Spells y bytes
