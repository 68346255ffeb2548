use Rattle.ssh_key.proofs.Grammars.{one_front}
use Rattle.agent.proofs.Requests.{request_grammar}
use Rattle.agent.proofs.Responses.{response_grammar}
use Rattle.agent.proofs.laws.one_message.Goals as goal

pub returns-clause-requests : goal.returns-clause-requests
returns-clause-requests c = one_front request_grammar

pub returns-clause-responses : goal.returns-clause-responses
returns-clause-responses c = one_front response_grammar
