use Rattle.std.proofs.Common.{◌≡◌, ◌==◌, length}
use Rattle.user_keys.specs.Principals.{after_last}
use Rattle.user_keys.proofs.principal_line.after_all.Given as goal

-- after the last of what is left stands what stands after the last of all
abbrev pub invariant-loop-more : goal.invariant-loop-more
invariant-loop-more l = after_last (λ c. c == l.divider) l.text ≡ after_last (λ c. c == l.divider) l.rest

abbrev pub decreases-loop-more : goal.decreases-loop-more
decreases-loop-more l = length l.rest
