use Rattle.std.proofs.Common.{refl}
use Rattle.publickey_login.specs.Sources.{ArePassed, IsOfFirst}
use Rattle.publickey_login.proofs.RefusalExamples.{not_silent, nothing, only_first}
use Rattle.publickey_login.proofs.examples.first_refusals.Goals as goal

pub returns : goal.returns
unfolding IsOfFirst ArePassed
returns c = λ u k over elsewhere both. (
  (1, refl, (nothing u k, both.third)),
  (0, refl, both.first),
  (nothing u k, tt),
  not_silent u k over elsewhere both,
  only_first u k over elsewhere both,
)
