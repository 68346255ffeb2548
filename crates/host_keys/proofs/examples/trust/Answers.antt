use Rattle.std.proofs.Common.{◌-◌, ◌^◌, [], ◌∷◌, None, refl, sym, arith, lit<}
use Rattle.sshkey_model.specs.Certificates.{forever}
use Rattle.sshkey_known_hosts.specs.Examples.{host, line}
use Rattle.host_keys.specs.Examples.{fields}
use Rattle.host_keys.proofs.ExampleLemmas.{at_standard, never, trusts, unmarked_none, unsaid}
use Rattle.host_keys.proofs.examples.trust.Goals as goal

pub returns : goal.returns
returns c = (
  unsaid [] (λ s. omega (arith, s.2)) fields refl,
  unsaid (line None host ∷ []) unmarked_none fields refl,
  λ t. never t.good.valid.valid.signature,
  λ t. never (sym t.unrevoked),
  λ t. omega (arith, t.good.valid.valid.after),
  trusts 22 199 200 [] at_standard (omega arith) (omega arith) (lit< tt),
  λ t. omega (arith, t.good.valid.valid.before),
  trusts 22 (2 ^ 63 - 1) forever [] at_standard (omega arith) (lit< tt) (lit< tt),
  λ t. omega (arith, t.good.valid.valid.time),
)
