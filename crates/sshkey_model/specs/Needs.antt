-- Where reading needs memory.
use Rattle.std.specs.Prelude.{◌≤◌, ◌<◌, ◌+◌, ◌-◌, ℕ, List, length, take, IsOk, IsOkAnd, ◌⊎◌}
use Rattle.std.specs.Int.{w32}
use Rattle.sshkey_model.specs.Reading.{Front, number_at}

-- Each of these is asked about the bytes before the end or the fault, and how many more were
-- announced after them.

-- no memory
abbrev pub NoNeed : List ℕ → ℕ → Type 0
NoNeed b m = ⊥

-- A string stands at the front that is no longer than was announced.
abbrev pub HasString : List ℕ → ℕ → Type 0
HasString b m = IsOkAnd (number_at w32 b) (λ x. x.0 ≤ length x.1 + m)

-- `n` bytes, at least one, and no more than were announced.
abbrev pub NeedsBytes : ℕ → List ℕ → ℕ → Type 0
NeedsBytes n b m = (0 < n) × (n ≤ length b + m)

-- Such a string stands at the front: one of no bytes needs no memory.
abbrev pub NeedsString : List ℕ → ℕ → Type 0
NeedsString b m = IsOkAnd (number_at w32 b) (λ x. NeedsBytes x.0 x.1 m)

-- What the first value needs, or the second after it, which may depend on the first.
abbrev pub NeedsThen : {A : Type 0} → (List ℕ → ℕ → Type 0) → Front A → (A → List ℕ → ℕ → Type 0) → List ℕ → ℕ → Type 0
NeedsThen first read second b m = first b m ⊎ IsOkAnd (read b) (λ x. second x.0 x.1 m)

-- Of values up to the end, the first needs memory, or stands there.
abbrev pub NeedsFirst : {A : Type 0} → (List ℕ → ℕ → Type 0) → Front A → List ℕ → ℕ → Type 0
NeedsFirst needs read b m = needs b m ⊎ IsOk (read b)

-- A box stands at the front that is no longer than was announced, and the value in it needs memory.
abbrev pub NeedsBoxed : (List ℕ → ℕ → Type 0) → List ℕ → ℕ → Type 0
NeedsBoxed needs b m = IsOkAnd (number_at w32 b) (λ x. (x.0 ≤ length x.1 + m) × needs (take x.0 x.1) (x.0 - length x.1))
