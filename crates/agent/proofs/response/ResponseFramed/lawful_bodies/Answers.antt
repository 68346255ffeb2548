use Rattle.agent.proofs.Lawful.{response_body_lawful}
use Rattle.agent.proofs.response.ResponseFramed.lawful_bodies.Goals as goal

pub returns : goal.returns
returns c = response_body_lawful
