-- The terms that formats are made of. A format is read aloud as it stands: `mpint_format then
-- mpint_format` is two numbers, one after the other.
use Rattle.std.specs.Prelude.{◌≡◌, ◌⊎◌, ℕ, List, [], ◌∷◌, Result, Ok}
use Rattle.sshkey_model.specs.Reading.{Fault, Front, whole, box_at, checked_at, literal_at, after_at}
use Rattle.sshkey_model.specs.Grammar.{Spells, SpellsBoxed, SpellsThen, SpellsTested}
use Rattle.sshkey_model.specs.Parts.{bytes}
use Rattle.sshkey_model.specs.Formats.{Format}
use Rattle.sshkey_model.specs.Needs.{NoNeed, NeedsThen, NeedsBoxed}
use Rattle.sshkey_model.specs.Overruns.{NoOverrun, OverrunsThen, OverrunsBoxed}

-- A value, and after it what that value calls for. A length after the first is met only if the
-- first ends by itself; memory is asked for after whatever was read.
abbrev pub dependent : {A B : Type 0} → Format A → (A → Format B) → Format (A × B)
dependent first second = record {
  Spells = SpellsThen first.Spells first.delimited_at (λ a. (second a).Spells);
  read = after_at first.read (λ a. (second a).read);
  delimited_at = after_at first.delimited_at (λ a. (second a).delimited_at);
  needs = NeedsThen first.needs first.read (λ a. (second a).needs);
  overruns = OverrunsThen first.overruns first.delimited_at (λ a. (second a).overruns);
}

-- a value, and another one after it
infixr 5 ◌then◌
abbrev pub ◌then◌ : {A B : Type 0} → Format A → Format B → Format (A × B)
first then second = dependent first (λ _. second)

-- a value, and what a test makes of it
abbrev pub tested : {A B : Type 0} → (A → Result B Fault) → Format A → Format B
tested test inner = record {
  Spells = SpellsTested inner.Spells test;
  read = checked_at test inner.read;
  delimited_at = checked_at test inner.delimited_at;
  needs = inner.needs;
  overruns = inner.overruns;
}

-- the same value, where it needs this memory
abbrev pub needing : {A : Type 0} → (List ℕ → ℕ → Type 0) → Format A → Format A
needing needs f = record { Spells = f.Spells; read = f.read; delimited_at = f.delimited_at; needs = needs; overruns = f.overruns }

abbrev pub without_memory : {A : Type 0} → Format A → Format A
without_memory = needing NoNeed

-- a value in a string: a length of four bytes, and the bytes of the value (RFC 4251, section 5)
abbrev pub boxed : {A : Type 0} → Format A → Format A
boxed inner = record {
  Spells = SpellsBoxed inner.Spells;
  read = box_at (whole inner.read);
  delimited_at = box_at (whole inner.read);
  needs = NeedsBoxed inner.needs;
  overruns = OverrunsBoxed inner.overruns;
}

-- these very bytes, without a length before them
abbrev pub literal_format : List ℕ → Format (List ℕ)
literal_format text = record {
  Spells = Spells (λ b. b ≡ text) bytes;
  read = literal_at text;
  delimited_at = literal_at text;
  needs = NoNeed;
  overruns = NoOverrun;
}

-- The value of no bytes, or else another: what may stand in a string.
abbrev pub or_nothing_at : {A : Type 0} → A → Front A → Front A
or_nothing_at none read [] = Ok (none, [])
or_nothing_at none read (b ∷ rest) = read (b ∷ rest)

abbrev pub or_nothing : {A : Type 0} → A → Format A → Format A
or_nothing none inner = record {
  Spells = λ x b. ((x ≡ none) × (b ≡ [])) ⊎ inner.Spells x b;
  read = or_nothing_at none inner.read;
  delimited_at = inner.delimited_at;
  needs = inner.needs;
  overruns = inner.overruns;
}

-- what the first value calls for, without that value
abbrev pub called : {A B : Type 0} → Format A → (A → Format B) → Format B
called first second = tested (λ x. Ok x.1) (dependent first second)

-- ---- terms whose values all end by themselves, by the names that their tree and reader have

-- a term, and the reader that gives what the term's gives
abbrev pub read_as : {A : Type 0} → Format A → Front A → Format A
read_as f read = record { Spells = f.Spells; read = read; delimited_at = read; needs = f.needs; overruns = f.overruns }

-- the same, and the tree that spells what the term spells
abbrev pub known_as : {A : Type 0} → Format A → (A → List ℕ → Type 0) → Front A → Format A
known_as f Spells read = record { Spells = Spells; read = read; delimited_at = read; needs = f.needs; overruns = f.overruns }
