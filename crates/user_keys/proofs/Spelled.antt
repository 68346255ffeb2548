-- Symbols that follow one another, and marks that stand in a text.
use Rattle.std.proofs.Common.{◌≡◌, ◌+◌, ◌<◌, ℕ, List, [], ◌∷◌, arith, drop, length}
use Rattle.std.specs.Prelude.{slice_index}
use Rattle.user_keys.specs.Spellings.{Follow, StandAt}

pub first_and_others : (symbols text : List ℕ) (place : ℕ) → 0 < length symbols → (StandAt symbols text place → (slice_index text place ≡ slice_index symbols 0) × Follow (drop 1 symbols) (drop (place + 1) text)) × ((slice_index text place ≡ slice_index symbols 0) × Follow (drop 1 symbols) (drop (place + 1) text) → StandAt symbols text place)
first_and_others [] text place some = absurd (omega (arith, some))
first_and_others (s ∷ symbols) text place some = (λ h. h, λ h. h)
