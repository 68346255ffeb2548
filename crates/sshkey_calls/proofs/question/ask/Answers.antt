use Rattle.std.proofs.Common.{Option, refl, subst}
use Rattle.sshkey_model.specs.Verification as model
use Rattle.sshkey_calls.specs.Signatures.{TellsQuestion}
use Rattle.sshkey_calls.proofs.Rooms.{no_memory}
use Rattle.sshkey_calls.proofs.question.ask.Goals as goal

pub returns-in-Ok : goal.returns-in-Ok
returns-in-Ok c = subst (λ (q : Option model.Question). TellsQuestion q c.write_question.result c.args.answer.now c.write_question.new.answer c.args.room.now c.write_question.new.room) c.in-Ok.ensures.value c.write_question.ensures

pub returns : goal.returns
returns c = record { raised = no_memory _ _ _ _ _ (refl, refl) refl; unsupported = λ _ other. absurd (other refl) }
