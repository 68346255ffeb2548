-- What a call says that looks a name up.
use Rattle.std.specs.Prelude.{◌≡◌, ◌≢◌, ℕ, List, Result, Ok, Err}
use Rattle.std.specs.Int.{w32}
use Rattle.sshkey_model.specs.Reading.{Whole, Label, number_at, string_at}
use Rattle.sshkey_base.specs.Causes.{Cause, NoMemory}
use Rattle.sshkey_base.specs.declared.encoding.Error.{Error}
use Rattle.sshkey_base.specs.declared.encoding.Error.TheVariants as encoding

-- What a call gives that looks a name up: the value of that name, or `Label` where there is none,
-- out of memory aside.
abbrev pub LooksUp : {X N : Type 0} → (X → N) → Whole N → List ℕ → Result X Error → Type 0
LooksUp stands_for named name (Ok x) = named name ≡ Ok (stands_for x)
LooksUp stands_for named name (Err e) = e ≢ encoding.Memory → (named name ≡ Err Label) × (e ≡ encoding.Label)

-- The same of a call that takes no memory.
abbrev pub LooksUpAlways : {X N : Type 0} → (X → N) → Whole N → List ℕ → Result X Error → Type 0
LooksUpAlways stands_for named name (Ok x) = named name ≡ Ok (stands_for x)
LooksUpAlways stands_for named name (Err e) = (named name ≡ Err Label) × (e ≡ encoding.Label)

-- Memory was refused only where the string of that name needs some.
abbrev pub AsksNamed : {X E : Type 0} → (E → Cause) → (List ℕ → ℕ → Type 0) → List ℕ → Result X E → Type 0
AsksNamed cause needs name (Ok x) = Unit {0}
AsksNamed cause needs name (Err e) = cause e ≡ NoMemory → (b rest : List ℕ) (m : ℕ) → string_at b ≡ Ok (name, rest) → needs b m

-- Where what follows a length of n needs memory.
abbrev pub NeedsAfter : (List ℕ → ℕ → Type 0) → ℕ → List ℕ → ℕ → Type 0
NeedsAfter needs n b m = (a : List ℕ) → number_at w32 a ≡ Ok (n, b) → needs a m
