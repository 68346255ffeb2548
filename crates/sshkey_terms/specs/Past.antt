-- How a call that takes no memory refuses a source with a fault.
use Rattle.std.specs.Prelude.{◌≡◌, ℕ, zero, suc, List, Result, Ok, Err}
use Rattle.sshkey_model.specs.Reading.{Length}
use Rattle.sshkey_base.specs.Causes.{Cause, Faulty}

-- A source that breaks off is refused with `Length` where a stated length passes all that was
-- announced. Of a sound source `gives` says it.
abbrev pub StopsPastAlways : {X E : Type 0} → (E → Cause) → (overruns : List ℕ → ℕ → Type 0) → List ℕ → (missing : ℕ) → Result X E → Type 0
StopsPastAlways cause overruns b zero r = Unit {0}
StopsPastAlways cause overruns b (suc m) (Ok x) = Unit {0}
StopsPastAlways cause overruns b (suc m) (Err e) = overruns b (suc m) → cause e ≡ Faulty Length
