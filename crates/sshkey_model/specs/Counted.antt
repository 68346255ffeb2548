-- A counted list: a number of four bytes, and that many values, one after the other, of at least a
-- byte each.
use Rattle.std.specs.Prelude.{◌≡◌, ◌⊎◌, ◌≤◌, ◌<◌, ◌+◌, ℕ, zero, suc, List, [], ◌∷◌, ◌++◌, length, Result, Ok, Err, IsOkAnd, nat_lt, if◌then◌else◌}
use Rattle.sshkey_model.specs.Parts.{Parts, ◌&◌, each}
use Rattle.sshkey_model.specs.Reading.{Fault, Length, ◌>>=◌, Front}
use Rattle.sshkey_model.specs.Grammar.{MayFollow}
use Rattle.sshkey_model.specs.Formats.{Format}
use Rattle.sshkey_model.specs.Leaves.{number32_format, count}
use Rattle.sshkey_model.specs.Needs.{NeedsFirst}
use Rattle.sshkey_model.specs.Terms.{called}

-- their number and the values, as they are written
abbrev pub counted : {A : Type 0} → (A → Parts) → List A → Parts
counted spell xs = count (length xs) & each spell xs

-- The bytes spell the values, one after the other. Each that bytes follow ends by itself.
abbrev pub SpellsEach : {A : Type 0} → (A → List ℕ → Type 0) → Front A → List A → List ℕ → Type 0
SpellsEach Spells delimited_at [] b = b ≡ []
SpellsEach Spells delimited_at (x ∷ xs) b = (front : List ℕ) × (after : List ℕ) × Spells x front × SpellsEach Spells delimited_at xs after × (b ≡ front ++ after) × MayFollow delimited_at x front after

-- `n` values, with at least a byte each.
pub record SpellsValues {A : Type 0} (Spells : A → List ℕ → Type 0) (delimited_at : Front A) (n : ℕ) (xs : List A) (b : List ℕ) : Type 0 where
  pub number : length xs ≡ n
  pub each : SpellsEach Spells delimited_at xs b
  pub bytes : n ≤ length b

-- ---- reading

-- that many values, one after the other
unfoldable pub times_at : {A : Type 0} → Front A → ℕ → Front (List A)
times_at item zero b = Ok ([], b)
times_at item (suc n) b = do
  x ← item b
  xs ← times_at item n x.1
  Ok (x.0 ∷ xs.0, xs.1)

-- They took a byte each.
abbrev pub filled : {A : Type 0} → ℕ → List ℕ → List A × List ℕ → Result (List A × List ℕ) Fault
filled n b xs = if nat_lt (length b) (length xs.1 + n) then Err Length else Ok xs

unfoldable pub values_at : {A : Type 0} → Front A → ℕ → Front (List A)
values_at item n b = if nat_lt (length b) n then Err Length else (times_at item n b >>= filled n b)

-- ---- as a format

-- Some are wanted, and the first one needs memory, or stands there.
abbrev pub NeedsValues : {A : Type 0} → Format A → ℕ → List ℕ → ℕ → Type 0
NeedsValues item n b m = (0 < n) × NeedsFirst item.needs item.read b m

-- No more are wanted than bytes were announced, and the first one needs memory, or stands there.
abbrev pub NeedsCounted : {A : Type 0} → Format A → ℕ → List ℕ → ℕ → Type 0
NeedsCounted item n b m = (n ≤ length b + m) × NeedsValues item n b m

-- One of that many values overruns, after others that end by themselves.
abbrev pub OverrunsValues : {A : Type 0} → Format A → ℕ → List ℕ → ℕ → Type 0
OverrunsValues item zero b m = ⊥
OverrunsValues item (suc n) b m = item.overruns b m ⊎ IsOkAnd (item.delimited_at b) (λ x. OverrunsValues item n x.1 m)

-- More values are wanted than bytes were announced, or one of them overruns.
abbrev pub OverrunsCounted : {A : Type 0} → Format A → ℕ → List ℕ → ℕ → Type 0
OverrunsCounted item n b m = (length b + m < n) ⊎ OverrunsValues item n b m

abbrev pub values_format : {A : Type 0} → Format A → ℕ → Format (List A)
values_format item n = record {
  Spells = SpellsValues item.Spells item.delimited_at n;
  read = values_at item.read n;
  delimited_at = values_at item.delimited_at n;
  needs = NeedsCounted item n;
  overruns = OverrunsCounted item n;
}

-- their number, and that many values
abbrev pub counted_format : {A : Type 0} → Format A → Format (List A)
counted_format item = called number32_format (values_format item)
