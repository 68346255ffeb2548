use Rattle.std.proofs.Common.{◌≡◌, length}
use Rattle.user_keys.specs.Principals.{trimmed}
use Rattle.user_keys.proofs.principal_line.trimmed.Given as goal

-- what is left ends as all, its own end aside
abbrev pub invariant-loop-front : goal.invariant-loop-front
invariant-loop-front l = trimmed l.fn.text ≡ trimmed l.rest

abbrev pub decreases-loop-front : goal.decreases-loop-front
decreases-loop-front l = length l.rest
