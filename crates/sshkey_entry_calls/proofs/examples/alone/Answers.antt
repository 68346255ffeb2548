use Rattle.std.proofs.Common.{ap, arith, inl, inr, refl}
use Rattle.std.specs.Prelude.{get_or}
use Rattle.sshkey_entry_calls.proofs.Destinations.{none_in_one, two_at_front, two_within}
use Rattle.sshkey_entry_calls.proofs.examples.alone.Goals as goal

pub returns : goal.returns
returns c = (
  inr ((λ inside e. omega (arith, ap (λ l. get_or l 0 0) e)), (refl, λ x is. none_in_one x.0 x.1 is)),
  inr ((λ inside e. omega (arith, ap (λ l. get_or l 0 0) e)), (refl, λ x is. two_at_front x.0 x.1 is)),
  inr ((λ inside e. omega (arith, ap (λ l. get_or l 0 0) e)), (refl, λ x is. two_within x.0 x.1 is)),
  λ d. elim d [ inl b ↦ omega (arith, ap (λ l. get_or l 0 0) b.1) | inr x ↦ x.1.1.before 1 (omega arith) refl ],
)
