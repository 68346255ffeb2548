use Rattle.std.proofs.Common.{arith, refl}
use Rattle.sshkey_matching.specs.Times.{days_of_months}
use Rattle.sshkey_matching.proofs.Calendar.{years}
use Rattle.sshkey_matching.proofs.examples.days.Goals as goal

pub returns : goal.returns
unfolding days_of_months
returns c = (
  omega (years 1970 (omega arith), arith),
  refl,
  refl,
  refl,
  omega (arith, years 1970 (omega arith)),
  omega (arith, years 2024 (omega arith)),
)
