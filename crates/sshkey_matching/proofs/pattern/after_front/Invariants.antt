use Rattle.std.proofs.Common.{length}
use Rattle.sshkey_matching.specs.Patterns.{fold_of, GoesOn}
use Rattle.sshkey_matching.proofs.pattern.after_front.Given as goal

-- how far it is matched
abbrev pub invariant-characters : goal.invariant-characters
invariant-characters l = GoesOn (fold_of l.letter_case) l.pattern l.text l.rest l.left

abbrev pub decreases-characters : goal.decreases-characters
decreases-characters l = length l.rest
