-- How a value is spelled: bytes, numbers and boxes, joined (RFC 4251, section 5).
use Rattle.std.specs.Prelude.{◌≡◌, ℕ, ◌^◌, ◌<◌, List, [], ◌∷◌, ◌++◌, length, Bool, true, ◌&&◌, nat_lt}
use Rattle.std.specs.Int.{Width, w32, to_be_bytes}
use mir.Val.{bits}

-- A box holds parts: it is what SSH calls a string. `&` joins.
infixr 5 ◌&◌
pub data Parts : Type 0 where
  nothing : Parts
  bytes : List ℕ → Parts
  number : Width → ℕ → Parts
  box : Parts → Parts
  ◌&◌ : Parts → Parts → Parts

-- A number stands most significant byte first. A box is the number of its bytes, in four, and then
-- its bytes.
unfoldable pub flat : Parts → List ℕ
flat nothing = []
flat (bytes b) = b
flat (number w n) = to_be_bytes w n
flat (box p) = to_be_bytes w32 (length (flat p)) ++ flat p
flat (p & q) = flat p ++ flat q

-- each number is one of a byte
abbrev pub are_bytes : List ℕ → Bool
are_bytes [] = true
are_bytes (b ∷ rest) = nat_lt b 256 && are_bytes rest

-- Every byte is one, and every number fits its width. (`Unit {0}` always holds.)
unfoldable pub InRange : Parts → Type 0
InRange nothing = Unit {0}
InRange (bytes b) = are_bytes b ≡ true
InRange (number w n) = n < 2 ^ bits w
InRange (box p) = InRange p
InRange (p & q) = InRange p × InRange q

-- Every box has at most 2^32 - 1 bytes.
unfoldable pub BoxesFit : Parts → Type 0
BoxesFit nothing = Unit {0}
BoxesFit (bytes b) = Unit {0}
BoxesFit (number w n) = Unit {0}
BoxesFit (box p) = (length (flat p) < 2 ^ 32) × BoxesFit p
BoxesFit (p & q) = BoxesFit p × BoxesFit q

-- The parts can stand in bytes.
pub record Fits (p : Parts) : Type 0 where
  pub range : InRange p
  pub boxes : BoxesFit p

-- the parts of each, one after the other
abbrev pub each : {A : Type 0} → (A → Parts) → List A → Parts
each spell [] = nothing
each spell (x ∷ xs) = spell x & each spell xs

-- No spelling begins another.
unfoldable pub IsPrefixFree : {A : Type 0} → (A → Type 0) → (A → Parts) → Type 0
IsPrefixFree {A} Is spell = (v w : A) (r q : List ℕ) → Is v → Fits (spell v) → Is w → Fits (spell w) → flat (spell v) ++ r ≡ flat (spell w) ++ q → (v ≡ w) × (r ≡ q)

-- Nothing is asked.
abbrev pub Any : {A : Type 0} → A → Type 0
Any x = Unit {0}

-- bytes of that length
abbrev pub HasLength : ℕ → List ℕ → Type 0
HasLength n b = length b ≡ n
