use Rattle.allowed_signers.proofs.Decisions.{nothing_permitted, permitted}
use Rattle.allowed_signers.proofs.signers.options_permit.Goals as goal

pub returns-in-Some-clause-answer : goal.returns-in-Some-clause-answer
returns-in-Some-clause-answer c = permitted c.args.namespace.now c.args.unix_timestamp c.args.options.now c.in_ok-found.found c.in-Some.said c.in-Some.is c.in_ok-found.ensures c.permit.result c.permit.ensures

pub returns-in-None-clause-answer : goal.returns-in-None-clause-answer
returns-in-None-clause-answer c = nothing_permitted c.args.namespace.now c.args.unix_timestamp c.args.options.now c.in_ok-found.found c.in-None.is c.in_ok-found.ensures
