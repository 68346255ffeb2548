use Rattle.std.proofs.Common.{Option, refl, subst}
use Rattle.publickey_login.specs.Signatures.{Signed}
use Rattle.publickey_login.specs.Values.{signed_of}
use Rattle.sshkey_c.specs.Refusals.{said}
use Rattle.sshkey_c.specs.Verdicts.{AsksLogIn, Tells, TellsQuestions}
use Rattle.sshkey_c.proofs.Verdicts.{asked, of_texts}
use Rattle.sshkey_c.proofs.verdict.raf_log_in_questions.Goals as goal

pub returns-in_default-clause-asked : goal.returns-in_default-clause-asked
returns-in_default-clause-asked c = record {
  asked = λ _. (said 104, refl, subst (λ (o : Option Signed). Tells c.args.login.now o (λ x. x) (said 104) (λ login s of_revoked. AsksLogIn login s of_revoked 104 c.args.answer.now c.args.room.now c.args.room.now)) c.in_default.ensures refl);
  stays = λ _ _. (refl, refl);
}

pub returns-clause-asked : goal.returns-clause-asked
returns-clause-asked c = subst (λ (o : Option Signed). TellsQuestions c.args.login.now o (λ x. x) c.ask.result c.args.answer.now c.ask.new.answer c.args.room.now c.ask.new.room) c.in-Some.ensures
    (asked c.args.login.now (signed_of c.in-Some.signed) (λ x. x) c.one_grant.ensures c.client_of.result c.client_of.ensures c.ask.result c.args.answer.now c.ask.new.answer c.args.room.now c.ask.new.room c.pend-pended.result c.pend-pended.ensures.range c.pend-pended.ensures.verdict c.ask.ensures)

pub returns-clause-memory : goal.returns-clause-memory
returns-clause-memory c = of_texts c.args.login.now (signed_of c.in-Some.signed) c.client_of.result c.pend-pended.result c.ask.result c.args.answer.now c.ask.new.answer c.args.room.now c.ask.new.room c.pend-pended.ensures.verdict c.pend-pended.ensures.memory c.ask.ensures
