use Rattle.std.proofs.Common.{arith, refl}
use Rattle.login_terms.proofs.ExampleLemmas.{unlike}
use Rattle.login_terms.proofs.examples.ports.Goals as goal

pub returns : goal.returns
returns c = (
  ((λ e. unlike _ _ e refl), ((omega arith, (omega arith, tt)), refl), omega arith, omega arith),
  ((λ e. unlike _ _ e refl), ((omega arith, (omega arith, (omega arith, (omega arith, (omega arith, (omega arith, tt)))))), refl), omega arith, omega arith),
  refl,
  ((λ e. unlike _ _ e refl), ((omega arith, (omega arith, (omega arith, (omega arith, tt)))), refl), omega arith, omega arith),
  λ is. omega (arith, is.2),
  λ is. omega (arith, is.3),
  ((λ e. unlike _ _ e refl), (λ n is less. omega (arith, is.0.1.0))),
  ((λ e. unlike _ _ e refl), (λ n is less. omega (arith, is.0.1.0))),
  ((λ e. unlike _ _ e refl), (λ n is less. omega (arith, is.0.0))),
  λ m. m.1 0 ((omega arith, (omega arith, tt)), refl) (omega arith),
  λ m. m.1 65536 ((omega arith, (omega arith, (omega arith, (omega arith, (omega arith, (omega arith, tt)))))), refl) (omega arith),
  λ m. m.0 refl,
)
