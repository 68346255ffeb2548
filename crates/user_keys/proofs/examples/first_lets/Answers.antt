use Rattle.user_keys.proofs.ExampleLemmas.{first_of_three, not_after, two_terms}
use Rattle.user_keys.proofs.examples.first_lets.Goals as goal

pub returns : goal.returns
returns c = (
  first_of_three,
  (λ n t lets. not_after lets.first.before lets.first.after lets.line lets.first.is lets.first.none lets.lets.0),
  (λ n t lets. lets.told lets.lets.0),
  (λ n t lets. two_terms t (λ u. lets.alone u lets.lets)),
)
