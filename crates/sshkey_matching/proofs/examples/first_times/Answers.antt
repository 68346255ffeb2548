use Rattle.std.proofs.Common.{◌≡◌, arith, rules}
use Rattle.sshkey_matching.specs.Times.{days_of_months, days_of_years}
use Rattle.sshkey_matching.proofs.Calendar.{years}
use Rattle.sshkey_matching.proofs.examples.first_times.Goals as goal

to_1970 : days_of_years 1970 ≡ 719528
to_1970 = years 1970 (omega arith)

to_1969 : days_of_years 1969 ≡ 719163
to_1969 = years 1969 (omega arith)

pub returns : goal.returns
unfolding days_of_months
returns c = (
  record { form = search rules; first = omega arith; last = omega arith; later = omega arith },
  record { form = search rules; first = omega arith; last = omega arith; later = omega arith },
  λ s is. omega (arith, is.first, is.later),
  λ s is. omega (arith, is.first, is.later),
  λ s is. omega (arith, is.first, is.later, to_1970, to_1969),
)
