use Rattle.publickey_login.specs.Sources.{client_known}
use Rattle.publickey_login.specs.Signatures.{BySshd}
use Rattle.sshkey_c.proofs.Verdicts.{asked, of_texts}
use Rattle.sshkey_c.proofs.verdict.raf_may_offer_questions.Goals as goal

pub returns-clause-asked : goal.returns-clause-asked
returns-clause-asked c =
    let (client, there, pends) = c.pend_offer.ensures.verdict in
    asked c.args.login.now BySshd client_known c.one_grant.ensures client there c.ask.result c.args.answer.now c.ask.new.answer c.args.room.now c.ask.new.room c.pend_offer.result c.pend_offer.ensures.range pends c.ask.ensures

pub returns-clause-memory : goal.returns-clause-memory
returns-clause-memory c =
    let (client, there, pends) = c.pend_offer.ensures.verdict in
    of_texts c.args.login.now BySshd (client_known client) c.pend_offer.result c.ask.result c.args.answer.now c.ask.new.answer c.args.room.now c.ask.new.room pends c.pend_offer.ensures.memory c.ask.ensures
