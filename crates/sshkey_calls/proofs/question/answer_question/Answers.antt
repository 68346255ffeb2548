use Rattle.std.proofs.Common.{option_map, refl}
use Rattle.sshkey_keys.specs.Questions.{question_of}
use Rattle.sshkey_calls.proofs.Signatures.{none_told, question_told}
use Rattle.sshkey_calls.proofs.question.answer_question.Goals as goal

pub returns-in-Some : goal.returns-in-Some
returns-in-Some c = question_told question_of (option_map question_of c.args.asked) c.args.asked refl _ _ _ _ _ c.in-Some.question c.in-Some.is c.answer_with.ensures

pub returns-in-None : goal.returns-in-None
returns-in-None c = none_told question_of (option_map question_of c.args.asked) c.args.asked refl 40 _ _ _ _ c.in-None.is refl (refl, refl)
