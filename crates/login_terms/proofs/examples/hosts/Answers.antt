use Rattle.std.proofs.Common.{arith, inl, refl}
use Rattle.login_terms.proofs.ExampleLemmas.{bracketed, plain, port}
use Rattle.login_terms.proofs.examples.hosts.Goals as goal

pub returns : goal.returns
returns c = (
  plain,
  bracketed,
  port,
  inl (λ none. none 1 (omega arith) refl),
  (λ s few. (omega (arith, few), (_, plain, refl))),
  (λ s t many is. omega (arith, many, is.0)),
  (λ s few. (omega (arith, few), (_, port, refl))),
  (λ s t many is. omega (arith, many, is.0)),
)
