use Rattle.std.proofs.Common.{ℕ, List, arith, inr, refl, subst, sym}
use Rattle.sshkey_entry_calls.specs.Destinations.{IsDestination}
use Rattle.sshkey_c.proofs.destination.raf_host_and_port.Goals as goal

pub returns-in_default-read_destination-clause-parts : goal.returns-in_default-read_destination-clause-parts
returns-in_default-read_destination-clause-parts c = λ is_text. record {
  found = λ e. absurd (omega (arith, e));
  within = λ e. absurd (omega (arith, e));
  none = λ _ d is. c.in_default-read_destination.ensures d (subst (λ (t : List ℕ). IsDestination t d) (sym c.in-Ok.ensures.cases.0) is);
  others = inr refl;
}
