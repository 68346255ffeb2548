use Rattle.std.proofs.Common.{refl}
use Rattle.publickey_login.specs.Sources.{IsOfFirst}
use Rattle.publickey_login.proofs.examples.principal_refusals.Goals as goal

pub returns : goal.returns
unfolding IsOfFirst
returns c = λ l certificate over elsewhere both. ((0, refl, both.third), (0, refl, both.first), refl, λ x is. absurd (cc is))
