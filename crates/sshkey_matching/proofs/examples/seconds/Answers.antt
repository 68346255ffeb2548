use Rattle.std.proofs.Common.{◌≡◌, arith, rules}
use Rattle.sshkey_matching.specs.Times.{days_of_months, days_of_years}
use Rattle.sshkey_matching.proofs.Calendar.{years}
use Rattle.sshkey_matching.proofs.examples.seconds.Goals as goal

to_1970 : days_of_years 1970 ≡ 719528
to_1970 = years 1970 (omega arith)

to_2023 : days_of_years 2023 ≡ 738886
to_2023 = years 2023 (omega arith)

to_2024 : days_of_years 2024 ≡ 739251
to_2024 = years 2024 (omega arith)

pub returns : goal.returns
unfolding days_of_months
returns c = (
  record { form = search rules; first = omega (arith, to_1970, to_2023); last = omega (arith, to_1970, to_2023); later = omega arith },
  record { form = search rules; first = omega (arith, to_1970, to_2024); last = omega (arith, to_1970, to_2024); later = omega arith },
  record { form = search rules; first = omega (arith, to_1970, to_2023); last = omega (arith, to_1970, to_2023); later = omega arith },
  record { form = search rules; first = omega (arith, to_1970, to_2023); last = omega (arith, to_1970, to_2023); later = omega arith },
  record { form = search rules; first = omega (arith, to_1970, to_2023); last = omega (arith, to_1970, to_2023); later = omega arith },
)
