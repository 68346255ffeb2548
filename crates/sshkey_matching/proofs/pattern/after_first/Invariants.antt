use Rattle.std.proofs.Common.{◌≡◌, ℕ, ◌<◌, length, drop}
use Rattle.sshkey_matching.specs.Patterns.{Matches, fold_of}
use Rattle.sshkey_matching.proofs.pattern.after_first.Given as goal

-- the pattern matches at no place before this one
abbrev pub invariant-places : goal.invariant-places
invariant-places l = (place : ℕ) × (l.from ≡ drop place l.text) × ((k : ℕ) → k < place → Matches (fold_of l.letter_case) l.pattern (drop k l.text) → ⊥)

abbrev pub decreases-places : goal.decreases-places
decreases-places l = length l.from
