use Rattle.std.proofs.Common.{ℕ, ◌<◌, ◌≤◌, ◌-◌, length}
use Rattle.user_keys.specs.Spellings.{HasMarkAt}
use Rattle.user_keys.proofs.marks.Marks.stand_in.Given as goal

-- none stands at a place before that from which they are sought
abbrev pub invariant-loop-place : goal.invariant-loop-place
invariant-loop-place l = (l.from ≤ length l.text) × ((k : ℕ) → k < l.from → HasMarkAt l.self l.text k → ⊥)

abbrev pub decreases-loop-place : goal.decreases-loop-place
decreases-loop-place l = length l.text - l.from
