use Rattle.std.proofs.Common.{refl}
use Rattle.publickey_login.specs.Sources.{client_known}
use Rattle.publickey_login.specs.Signatures.{BySshd}
use Rattle.sshkey_c.specs.Refusals.{said}
use Rattle.sshkey_c.proofs.Verdicts.{not_offered, offered}
use Rattle.sshkey_c.proofs.verdict.raf_may_offer.Goals.{in-Err, in-Ok}
use Rattle.sshkey_c.proofs.verdict.raf_may_offer.Goals as goal

pub returns-clause-verdict : goal.returns-clause-verdict
returns-clause-verdict c = elim c.match-decide_offer.branch [
  | in-Ok w ↦ rw w.result-is (λ other. (said 0, refl, offered c.args.login.now BySshd client_known c.args.ticket.now.bytes c.args.answers w.in-Ok.field-0 w.in-Ok.ensures.verdict))
  | in-Err w ↦ rw w.result-is (λ other. (w.in-Err.refusal, refl, not_offered c.args.login.now BySshd client_known c.args.ticket.now.bytes c.args.answers w.in-Err.refusal (w.in-Err.ensures.range other) other w.in-Err.ensures.verdict))
]
