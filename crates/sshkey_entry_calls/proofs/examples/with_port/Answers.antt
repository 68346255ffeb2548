use Rattle.std.proofs.Common.{ap, arith, inl, inr, length, refl}
use Rattle.std.specs.Prelude.{codes, get_or}
use Rattle.sshkey_entry_calls.specs.Destinations.{IsPort}
use Rattle.sshkey_entry_calls.proofs.Destinations.{after_h, after_nothing}
use Rattle.sshkey_entry_calls.proofs.examples.with_port.Goals as goal

at_22 : IsPort (codes "22") 22
at_22 = (((omega arith, (omega arith, (omega arith, tt))), refl), omega arith, omega arith)

pub returns : goal.returns
returns c = (
  inr ((λ inside e. omega (arith, ap (λ l. get_or l 0 0) e)), (codes "22", after_h, at_22)),
  inr ((λ inside e. omega (arith, ap (λ l. get_or l 0 0) e)), (codes "22", after_nothing, at_22)),
  (λ d. elim d [ inl b ↦ omega (arith, ap (λ l. get_or l 0 0) b.1) | inr x ↦ x.1.1 (codes "h", codes "22") after_h ]),
  (λ d. elim d [ inl b ↦ omega (arith, ap (λ l. get_or l 0 0) b.1) | inr x ↦ omega (arith, ap length x.1.0) ]),
)
