-- When a reading call may run out of memory.
use Rattle.std.specs.Prelude.{◌≡◌, ℕ, List, Result, Ok, Err}
use Rattle.sshkey_base.specs.Causes.{Cause, NoMemory}
use Rattle.sshkey_base.specs.Source.{Source, IsSound}

-- From a sound source memory was refused only where it is needed.
abbrev pub Asks : {X E : Type 0} → (E → Cause) → (List ℕ → ℕ → Type 0) → Source → Result X E → Type 0
Asks cause needs s (Ok x) = Unit {0}
Asks cause needs s (Err e) = cause e ≡ NoMemory → IsSound s → needs s.left s.missing
