use Rattle.std.proofs.Common.{◌≡◌, length}
use Rattle.sshkey_model.specs.Mpints.{of_positive}
use Rattle.sshkey_base.proofs.mpint.without_leading_zeros.Given as goal

abbrev pub invariant-loop-rest : goal.invariant-loop-rest
invariant-loop-rest l = of_positive l.rest ≡ of_positive l.fn.bytes

abbrev pub decreases-loop-rest : goal.decreases-loop-rest
decreases-loop-rest l = length l.rest
