use Rattle.agent.proofs.Requests.{request_grammar, request_normal}
use Rattle.agent.proofs.Responses.{response_grammar, response_normal}
use Rattle.agent.proofs.laws.read_back_messages.Goals as goal

pub returns-clause-requests : goal.returns-clause-requests
returns-clause-requests c = λ r rest is fits. request_grammar.again _ _ rest (request_normal r is fits)

pub returns-clause-responses : goal.returns-clause-responses
returns-clause-responses c = λ r rest is fits. response_grammar.again _ _ rest (response_normal r is fits)
