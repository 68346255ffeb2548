use Rattle.std.proofs.Common.{[], ◌∷◌, ◌++◌, arith, codes, refl}
use Rattle.login_terms.specs.Values.{equals_sign}
use Rattle.login_terms.proofs.ExampleLemmas.{never, unlike, without}
use Rattle.login_terms.proofs.examples.variable_names.Goals as goal

pub returns : goal.returns
returns c = (
  (omega arith, refl),
  (omega arith, refl),
  (λ is. omega (arith, is.0)),
  (λ is. never is.1),
  (λ is. never is.1),
  record { value = []; is = refl; up_to = without equals_sign (codes "A") refl; name_is = (omega arith, refl) },
  record { value = codes "b=c"; is = refl; up_to = without equals_sign (codes "A") refl; name_is = (omega arith, refl) },
  (λ is. is.up_to 1 (omega arith) refl),
  (λ is. omega (arith, is.name_is.0)),
  (λ is. unlike (codes "A") (codes "A" ++ (equals_sign ∷ is.value)) is.is refl),
)
