use Rattle.std.proofs.Common.{arith, eq-eqb, eqb-true, refl}
use Rattle.sshkey_known_hosts.proofs.marker_field.is_without.Goals as goal

pub returns-in-Some : goal.returns-in-Some
returns-in-Some c = let at = c.in-Some.ensures in (λ never. cc never, λ without. absurd (without _ at.0.high (eqb-true _ _ at.1)))

pub returns-in-None : goal.returns-in-None
returns-in-None c = (λ _ i l is. c.in-None.ensures i (omega arith) l (eq-eqb _ _ is), λ _. refl)
