use Rattle.std.proofs.Common.{arith, inl, inr, refl}
use Rattle.login_terms.proofs.ExampleLemmas.{few_digits, never, unlike, without}
use Rattle.login_terms.specs.Values.{colon}
use Rattle.std.specs.Prelude.{codes}
use Rattle.login_terms.proofs.examples.may_be_values.Goals as goal

pub returns : goal.returns
returns c = (
  ((λ s is. few_digits 4 (omega arith) is.form.size), inr refl),
  inl (λ none. none 1 (omega arith) refl),
  inr (without colon (codes "ssh") refl, ((λ e. unlike _ _ e refl), (λ n is less. omega (arith, is.0.1.0)))),
  ((λ e. unlike _ _ e refl), (λ n is less. omega (arith, is.0.1.0))),
  (λ m. elim m.1 [ inl form ↦ few_digits 4 (omega arith) form.size | inr white ↦ never white ]),
  (λ m. elim m [ inl permit ↦ permit.0 (without colon (codes "0") refl) | inr port ↦ port.1.1 0 ((omega arith, (omega arith, tt)), refl) (omega arith) ]),
  (λ m. m.0 refl),
  (λ m. m),
  (λ m. m),
  (λ m. m),
  (λ m. m),
  (λ m. m),
  (λ m. m),
  (λ m. m),
  (λ m. m),
)
