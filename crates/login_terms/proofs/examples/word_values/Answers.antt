use Rattle.std.proofs.Common.{arith, refl}
use Rattle.login_terms.proofs.ExampleLemmas.{unlike}
use Rattle.login_terms.proofs.examples.word_values.Goals as goal

pub returns : goal.returns
returns c = (
  refl,
  (refl, refl),
  (λ t is. is),
  (λ t is. is),
  ((λ e. unlike _ _ e refl), (λ n is less. omega (arith, is.0.1.0))),
  (λ m. m),
)
