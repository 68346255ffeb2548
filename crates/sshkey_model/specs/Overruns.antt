-- Where a stated length passes all that was announced.
use Rattle.std.specs.Prelude.{◌≡◌, ◌≤◌, ◌<◌, ◌+◌, ◌-◌, ℕ, zero, suc, List, [], ◌∷◌, length, take, Option, Some, None, IsOkAnd, Err, ◌⊎◌}
use Rattle.std.specs.Int.{w32}
use Rattle.sshkey_model.specs.Reading.{Length, Front, number_at}

-- Each of these is asked about the bytes before the end or the fault, and how many more were
-- announced after them: a stated length passes all of that.

-- no length stands in it
abbrev pub NoOverrun : List ℕ → ℕ → Type 0
NoOverrun b m = ⊥

-- The length of the string at the front passes.
abbrev pub OverrunsString : List ℕ → ℕ → Type 0
OverrunsString b m = IsOkAnd (number_at w32 b) (λ x. length x.1 + m < x.0)

-- So do n bytes.
abbrev pub OverrunsBytes : ℕ → List ℕ → ℕ → Type 0
OverrunsBytes n b m = length b + m < n

-- The first value overruns, or it ends by itself and the second, which may depend on the first,
-- overruns after it.
abbrev pub OverrunsThen : {A : Type 0} → (List ℕ → ℕ → Type 0) → Front A → (A → List ℕ → ℕ → Type 0) → List ℕ → ℕ → Type 0
OverrunsThen first read second b m = first b m ⊎ IsOkAnd (read b) (λ x. second x.0 x.1 m)

-- The length of the box passes, or the value overruns in as much of the box as was announced.
abbrev pub OverrunsBoxed : (List ℕ → ℕ → Type 0) → List ℕ → ℕ → Type 0
OverrunsBoxed inner b m = OverrunsString b m ⊎ IsOkAnd (number_at w32 b) (λ x. (x.0 ≤ length x.1 + m) × inner (take x.0 x.1) (x.0 - length x.1))

-- One of the values in a row overruns, each of which may depend on the one before it; the number
-- bounds how many stand before it.
abbrev pub OverrunsWithin : {A : Type 0} → (Option A → Front A) → (List ℕ → ℕ → Type 0) → ℕ → Option A → List ℕ → ℕ → Type 0
OverrunsWithin item over n before [] m = ⊥
OverrunsWithin item over zero before (b ∷ rest) m = ⊥
OverrunsWithin item over (suc n) before (b ∷ rest) m = over (b ∷ rest) m ⊎ IsOkAnd (item before (b ∷ rest)) (λ x. OverrunsWithin item over n (Some x.0) x.1 m)

abbrev pub OverrunsList : {A : Type 0} → (Option A → Front A) → (List ℕ → ℕ → Type 0) → List ℕ → ℕ → Type 0
OverrunsList item over b m = (n : ℕ) × OverrunsWithin item over n None b m

-- What overruns is a fault of the plain reader: so nothing that overruns is accepted.
abbrev pub AreLengths : {Y : Type 0} → Front Y → (List ℕ → ℕ → Type 0) → Type 0
AreLengths read overruns = (b : List ℕ) (m : ℕ) → overruns b m → read b ≡ Err Length
