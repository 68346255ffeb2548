use Rattle.sshkey_keys.specs.Questions.{question_of}
use Rattle.sshkey_calls.proofs.Rooms.{answered}
use Rattle.sshkey_calls.proofs.question.answer_with.Goals as goal

pub returns : goal.returns
returns c = answered (question_of c.args.question.now) c.lay_out_question.result _ _ _ _ _ (λ answer placed. placed.length) c.lay_out_question.ensures c.answer_with.ensures
