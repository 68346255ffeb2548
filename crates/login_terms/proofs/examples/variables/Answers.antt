use Rattle.std.proofs.Common.{arith, inl, refl}
use Rattle.std.specs.Prelude.{codes}
use Rattle.login_terms.specs.Values.{IsVariable}
use Rattle.login_terms.proofs.ExampleLemmas.{without}
use Rattle.login_terms.proofs.examples.variables.Goals as goal

own : IsVariable (codes "A=b") (codes "A")
own = record { value = codes "b"; is = refl; up_to = without 0x3d (codes "A") refl; name_is = (omega arith, refl) }

pub returns : goal.returns
returns c = (
  (λ s few known. (omega (arith, few), (s.environment, (codes "A", own, inl (known, refl)), refl))),
  (λ s t many is. omega (arith, many, is.0)),
)
