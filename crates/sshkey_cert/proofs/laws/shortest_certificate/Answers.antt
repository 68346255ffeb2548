use Rattle.sshkey_cert.proofs.NormalForms.{only_shortest, shortest}
use Rattle.sshkey_cert.proofs.laws.shortest_certificate.Goals as goal

pub returns-clause-shortest : goal.returns-clause-shortest
returns-clause-shortest c = shortest

pub returns-clause-only : goal.returns-clause-only
returns-clause-only c = only_shortest
