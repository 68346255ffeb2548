use Rattle.std.proofs.Common.{arith, refl}
use Rattle.login_terms.proofs.examples.no_numbers.Goals as goal

pub returns : goal.returns
returns c = (
  (λ n is less. omega (arith, is.0.0)),
  (λ n is less. omega (arith, is.0.1.0)),
  (λ n is less. omega (arith, is.0.1.0)),
  (λ n is less. omega (arith, is.0.1.1.0)),
  (λ n is less. omega (arith, is.1, less)),
  (λ none. none 0 ((omega arith, (omega arith, tt)), refl) (omega arith)),
  (λ none. none 80 ((omega arith, (omega arith, (omega arith, (omega arith, tt)))), refl) (omega arith)),
  (λ none. none 4294967295 ((omega arith, (omega arith, (omega arith, (omega arith, (omega arith, (omega arith, (omega arith, (omega arith, (omega arith, (omega arith, (omega arith, tt))))))))))), refl) (omega arith)),
)
