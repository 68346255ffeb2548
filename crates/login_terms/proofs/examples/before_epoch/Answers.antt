use Rattle.std.proofs.Common.{◌≡◌, arith, inl, rules}
use Rattle.sshkey_matching.specs.Times.{days_of_months, days_of_years}
use Rattle.sshkey_matching.proofs.Calendar.{years}
use Rattle.login_terms.proofs.examples.before_epoch.Goals as goal

to_1900 : days_of_years 1900 ≡ 693961
to_1900 = years 1900 (omega arith)

to_1969 : days_of_years 1969 ≡ 719163
to_1969 = years 1969 (omega arith)

to_1970 : days_of_years 1970 ≡ 719528
to_1970 = years 1970 (omega arith)

pub returns : goal.returns
unfolding days_of_months
returns c = (
  ((λ s is. omega (arith, is.first, is.later)), inl (search rules)),
  ((λ s is. omega (arith, is.first, is.later)), inl (search rules)),
  ((λ s is. omega (arith, is.first, is.later, to_1970, to_1969)), inl (search rules)),
  ((λ s is. omega (arith, is.first, is.later, to_1970, to_1900)), inl (search rules)),
  λ m. m.0 (record { first = 1; last = 97201 }) (record { form = search rules; first = omega arith; last = omega arith; later = omega arith }),
  λ m. m.0 (record { first = 1; last = 1 }) (record { form = search rules; first = omega arith; last = omega arith; later = omega arith }),
)
