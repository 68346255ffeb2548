-- Values that fill a string, without their number: so nothing may follow them.
use Rattle.std.specs.Prelude.{◌≡◌, ℕ, List, [], ◌∷◌, ◌++◌, length, Option, None, Some, ◌<◌, ◌+◌}
use Rattle.sshkey_model.specs.Reading.{Front, list_whole, never_at, to_end}
use Rattle.sshkey_model.specs.Grammar.{MayFollow}
use Rattle.sshkey_model.specs.Formats.{Format}
use Rattle.sshkey_model.specs.Needs.{NeedsFirst}
use Rattle.sshkey_model.specs.Overruns.{OverrunsList}
use Rattle.sshkey_model.specs.Counted.{SpellsEach}

-- Each spelling of such a value has a byte.
abbrev pub HasBytes : {A : Type 0} → Format A → Type 0
HasBytes {A} item = (x : A) (b : List ℕ) → item.Spells x b → 0 < length b

-- Values, one after the other, up to the end.
abbrev pub each_at : {A : Type 0} → Format A → Front (List A)
each_at item = to_end (list_whole (λ _. item.read))

-- The first one needs memory, or stands there.
abbrev pub NeedsEach : {A : Type 0} → Format A → List ℕ → ℕ → Type 0
NeedsEach item b m = (0 < length b + m) × NeedsFirst item.needs item.read b m

-- One of them overruns.
abbrev pub OverrunsEach : {A : Type 0} → Format A → List ℕ → ℕ → Type 0
OverrunsEach item = OverrunsList (λ _. item.delimited_at) item.overruns

-- values, one after the other, each with a byte
abbrev pub values_to_end : {A : Type 0} → Format A → Format (List A)
values_to_end item = record {
  Spells = SpellsEach item.Spells item.delimited_at;
  read = each_at item;
  delimited_at = never_at;
  needs = NeedsEach item;
  overruns = OverrunsEach item;
}

-- ---- each as the one before it calls for

-- The bytes spell the values, one after the other. Each that bytes follow ends by itself.
abbrev pub SpellsRow : {A : Type 0} → (Option A → Format A) → Option A → List A → List ℕ → Type 0
SpellsRow item before [] b = b ≡ []
SpellsRow item before (x ∷ xs) b = (front : List ℕ) × (after : List ℕ) × (item before).Spells x front × SpellsRow item (Some x) xs after × (b ≡ front ++ after) × MayFollow (item before).delimited_at x front after

-- What the first needs, and what overruns it, is that of each: so a format here says these alike,
-- whatever stands before.
abbrev pub each_after : {A : Type 0} → (Option A → Format A) → Format (List A)
each_after item = record {
  Spells = SpellsRow item None;
  read = to_end (list_whole (λ before. (item before).read));
  delimited_at = never_at;
  needs = NeedsEach (item None);
  overruns = OverrunsList (λ before. (item before).delimited_at) (item None).overruns;
}
