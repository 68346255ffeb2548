use Rattle.std.proofs.Common.{Option, subst}
use Rattle.sshkey_model.specs.Verification as model
use Rattle.sshkey_calls.specs.Signatures.{TellsQuestion}
use Rattle.sshkey_calls.proofs.question.write_question.Goals as goal

pub returns : goal.returns
returns c = subst (λ (q : Option model.Question). TellsQuestion q c.answer_question.result c.args.answer.now c.answer_question.new.answer c.args.room.now c.answer_question.new.room) c.question.ensures c.answer_question.ensures
