use Rattle.allowed_signers.proofs.Decisions.{unread}
use Rattle.allowed_signers.proofs.signers.read_signature.Goals as goal

pub returns-in-Err : goal.returns-in-Err
returns-in-Err c = unread c.args.bytes.now c.in-Err.error c.refusal_of.result c.in-Err.ensures.accepts c.in-Err.ensures.asks c.refusal_of.ensures
