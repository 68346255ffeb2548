use Rattle.login_terms.specs.Values.{HostAndPort}
use Rattle.login_terms.specs.Questions.{Listens}
use Rattle.sshkey_c.specs.Grants.{to_listen}
use Rattle.sshkey_c.proofs.Places.{any_listens, of_terms}
use Rattle.sshkey_c.proofs.forwarding.raf_may_listen.Goals as goal

pub returns-clause-answer : goal.returns-clause-answer
returns-clause-answer c = λ text t has.
    let told = c.permitted.ensures.answer text (to_listen t) has in
    let said = of_terms (λ (p : HostAndPort). Listens p.host p.port c.args.host.now c.args.port) c.args.port (any_listens c.args.host.now c.args.port) t.permissions.port_forwarding t.permit_listen in
    ((λ done. said.0 (told.0 done)), (λ may. told.1 (said.1 may)))
