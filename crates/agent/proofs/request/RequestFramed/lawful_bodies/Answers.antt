use Rattle.agent.proofs.Lawful.{request_body_lawful}
use Rattle.agent.proofs.request.RequestFramed.lawful_bodies.Goals as goal

pub returns : goal.returns
returns c = request_body_lawful
