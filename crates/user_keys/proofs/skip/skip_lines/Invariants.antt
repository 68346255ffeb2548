use Rattle.std.proofs.Common.{length}
use Rattle.user_keys.specs.Spellings.{SkipsLines}
use Rattle.user_keys.proofs.skip.skip_lines.Given as goal

-- the lines so far have none
abbrev pub invariant-loop-lines : goal.invariant-loop-lines
invariant-loop-lines l = SkipsLines l.marks l.text l.count l.rest

abbrev pub decreases-loop-lines : goal.decreases-loop-lines
decreases-loop-lines l = length l.rest
