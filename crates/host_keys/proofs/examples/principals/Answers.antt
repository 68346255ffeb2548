use Rattle.std.proofs.Common.{[], ◌∷◌, codes, replicate, refl, arith, lit<}
use Rattle.sshkey_known_hosts.specs.Examples.{host}
use Rattle.host_keys.proofs.ExampleLemmas.{all_free, at_port, trusts, unlisted, unlisted_capitals}
use Rattle.host_keys.proofs.examples.principals.Goals as goal

pub returns : goal.returns
returns c = (
  trusts 2222 100 200 [] at_port (omega arith) (omega arith) (lit< tt),
  λ t. unlisted (codes "g.example" ∷ []) (λ e. cc e) refl t.good.valid.allowed,
  λ t. unlisted (codes "H.Example" ∷ []) (λ e. cc e) refl t.good.valid.allowed,
  λ t. unlisted (codes "*.example" ∷ []) (λ e. cc e) refl t.good.valid.allowed,
  λ t. t.good.fields.principals.some refl,
  λ t. t.good.fields.principals.read.no_zero 1 [] (omega arith) 0 (omega arith) refl,
  (trusts 2222 100 200 [] at_port (omega arith) (omega arith) (lit< tt)).good,
  λ good. unlisted_capitals good.valid.allowed,
  record { some = λ e. cc e; read = record { few = omega arith; no_zero = all_free (host ∷ []) refl } },
  λ a. a.some refl,
  record { some = λ e. cc e; read = record { few = omega arith; no_zero = all_free (replicate 256 host) refl } },
  λ a. omega (arith, a.read.few),
)
