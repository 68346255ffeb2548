use Rattle.std.proofs.Common.{List, ℕ, None, refl, subst}
use Rattle.sshkey_matching.specs.Times.{ReadsTime}
use Rattle.sshkey_c.proofs.time.raf_read_time.Goals as goal

pub returns-in_default-read_time-clause-time : goal.returns-in_default-read_time-clause-time
returns-in_default-read_time-clause-time c is_text = (None, subst (λ (t : List ℕ). ReadsTime t None) c.in-Ok.ensures.cases.0 c.in_default-read_time.ensures, refl)
