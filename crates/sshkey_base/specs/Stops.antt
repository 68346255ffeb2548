-- How a reading call refuses on any source, also on one with a fault.
use Rattle.std.specs.Prelude.{◌≡◌, ℕ, List, IsOk, Result, Ok, Err, ◌⊎◌}
use Rattle.sshkey_model.specs.Reading.{Length, Front}
use Rattle.sshkey_base.specs.Causes.{Cause, NoMemory, Faulty}
use Rattle.sshkey_base.specs.Source.{Source}

-- Memory ran out where it is needed.
pub record RanOut (cause : Cause) (needs : List ℕ → ℕ → Type 0) (s : Source) : Type 0 where
  pub memory : cause ≡ NoMemory
  pub needed : needs s.left s.missing

-- What is said of a refusal, by the plain reader of the values that end by themselves.
pub record Stopped {Y : Type 0} (cause : Cause) (read : Front Y) (needs overruns : List ℕ → ℕ → Type 0) (s : Source) : Type 0 where
  -- A value that ends by itself and stands whole before the fault is refused only for memory that
  -- it needs.
  pub takes : IsOk (read s.left) → RanOut cause needs s
  -- A length that passes all that was announced is `Length`, unless memory ran out for a value
  -- before it.
  pub past : overruns s.left s.missing → (cause ≡ Faulty Length) ⊎ RanOut cause needs s

-- What is said of a refusal by a call that reads to the end, which has no use for the first half:
-- memory may run out for any value.
abbrev pub StopsToEnd : {X E : Type 0} → (E → Cause) → (overruns : List ℕ → ℕ → Type 0) → Source → Result X E → Type 0
StopsToEnd cause overruns s (Ok x) = Unit {0}
StopsToEnd cause overruns s (Err e) = overruns s.left s.missing → (cause e ≡ Faulty Length) ⊎ (cause e ≡ NoMemory)

-- What is said of a refusal where a length passes alone: it is `Length`, unless memory ran out for
-- a value before it.
abbrev pub StopsPast : {X E : Type 0} → (E → Cause) → (needs overruns : List ℕ → ℕ → Type 0) → Source → Result X E → Type 0
StopsPast cause needs overruns s (Ok x) = Unit {0}
StopsPast cause needs overruns s (Err e) = overruns s.left s.missing → (cause e ≡ Faulty Length) ⊎ RanOut (cause e) needs s

-- a call, whatever source it reads
abbrev pub StopsBy : {X Y E : Type 0} → (E → Cause) → Front Y → (needs overruns : List ℕ → ℕ → Type 0) → Source → Result X E → Type 0
StopsBy cause read needs overruns s (Ok x) = Unit {0}
StopsBy cause read needs overruns s (Err e) = Stopped (cause e) read needs overruns s
