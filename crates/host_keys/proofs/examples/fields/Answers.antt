use Rattle.std.proofs.Common.{[], ◌∷◌, codes, refl, arith, lit<}
use Rattle.host_keys.specs.Examples.{option}
use Rattle.host_keys.proofs.ExampleLemmas.{at_standard, trusts}
use Rattle.host_keys.proofs.examples.fields.Goals as goal

pub returns : goal.returns
returns c = (
  trusts 22 100 200 [] at_standard (omega arith) (omega arith) (lit< tt),
  λ t. let e = t.good.fields.for_hosts in cc,
  λ t. let e = t.good.fields.no_options in cc,
  λ t. t.good.fields.key_id 1 (omega arith) refl,
  trusts 22 100 200 (option (codes "x@example.com") [] ∷ []) at_standard (omega arith) (omega arith) (lit< tt),
)
