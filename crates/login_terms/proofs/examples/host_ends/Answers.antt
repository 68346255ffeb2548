use Rattle.std.proofs.Common.{[], arith, codes, refl}
use Rattle.login_terms.specs.Values.{closing_bracket, colon}
use Rattle.login_terms.proofs.ExampleLemmas.{unlike, without}
use Rattle.login_terms.proofs.examples.host_ends.Goals as goal

pub returns : goal.returns
returns c = (
  record { is = refl; one_host = without colon (codes "h") refl },
  record { is = refl; one_host = without colon (codes "a") refl },
  record { is = refl; one_host = without colon [] refl },
  (λ host. host.one_host 1 (omega arith) refl),
  (λ host. unlike _ _ host.is refl),
  record { is = refl; one_host = without closing_bracket (codes "::1") refl },
  record { is = refl; one_host = without closing_bracket (codes "a") refl },
  (λ host. host.one_host 1 (omega arith) refl),
  (λ host. unlike _ _ host.is refl),
  (λ host. unlike _ _ host.is refl),
)
