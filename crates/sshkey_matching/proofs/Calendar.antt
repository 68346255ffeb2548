-- The sums of the calendar.
use Rattle.std.proofs.Common.{◌≡◌, ℕ, zero, suc, ◌+◌, ◌-◌, ◌*◌, ◌/◌, ◌<◌, refl, arith}
use Rattle.std.proofs.lemmas.Bool.Decides.{nat_tests}
use Rattle.sshkey_matching.specs.Times.{days_of_months, days_of_years, month_days, year_days}

-- the days up to the end of a year
abbrev through : ℕ → ℕ
through last = 365 * (last + 1) + 1 + last / 4 - last / 100 + last / 400

one_year : (last : ℕ) → through (suc last) ≡ through last + year_days (suc last)
one_year last = grind (arith, nat_tests)

years_through : (last : ℕ) → days_of_years (suc last) ≡ through last
unfolding days_of_years
years_through zero = refl
years_through (suc last) = omega (arith, years_through last, one_year last)

pub no_years : days_of_years 0 ≡ 0
unfolding days_of_years
no_years = refl

pub years : (count : ℕ) → 0 < count → days_of_years count ≡ 365 * count + 1 + (count - 1) / 4 - (count - 1) / 100 + (count - 1) / 400
years zero some = absurd (omega arith)
years (suc last) some = let back : suc last - 1 ≡ last = omega arith in let next : suc last ≡ last + 1 = omega arith in rw (back) (omega (arith, years_through last))

pub no_months : (year : ℕ) → days_of_months year 0 ≡ 0
unfolding days_of_months
no_months year = refl

pub one_month : (year n : ℕ) → days_of_months year (n + 1) ≡ days_of_months year n + month_days year (n + 1)
unfolding days_of_months
one_month year n = let next : n + 1 ≡ suc n = omega arith in rw next refl
