use Rattle.std.proofs.Common.{refl}
use Rattle.user_keys.proofs.ExampleLemmas.{never}
use Rattle.user_keys.proofs.examples.lines_of_principals.Goals as goal

pub returns : goal.returns
returns c = (
  (λ options t are. (refl, are)),
  (λ options t is. never is.0),
  (λ options t none is. none is.1),
  (λ t is. is),
  refl,
  (λ is. never is),
  (λ options may. (refl, may)),
  (λ options is. never is.0),
  (λ options none is. none is.1),
)
