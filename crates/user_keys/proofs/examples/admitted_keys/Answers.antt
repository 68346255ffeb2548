use Rattle.std.proofs.Common.{◌∙◌, sym}
use Rattle.std.proofs.lemmas.Option.{none-some}
use Rattle.user_keys.proofs.ExampleLemmas.{never, no_dsa}
use Rattle.user_keys.proofs.examples.admitted_keys.Goals as goal

pub returns : goal.returns
returns c = (
  (λ login key revokes g is revoked. never (sym is.unrevoked ∙ revoked)),
  (λ login key revokes g k dsa is. no_dsa login.least_rsa_bits key k dsa is.accepted),
  (λ login key revokes g is. is.granted),
  (λ login key revokes g by some is. none-some by (sym is.by_key ∙ some)),
)
