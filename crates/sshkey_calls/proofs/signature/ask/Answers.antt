use Rattle.std.proofs.Common.{Option, subst, ◌∙◌}
use Rattle.sshkey_model.specs.Verification as model
use Rattle.sshkey_keys.specs.Keys.{key_of}
use Rattle.sshkey_keys.specs.Signatures.{signature_of}
use Rattle.sshkey_keys_ref.specs.Keys.{key_bytes}
use Rattle.sshkey_keys_ref.specs.Signatures.{signature_bytes}
use Rattle.sshkey_calls.specs.Signatures.{TellsQuestion}
use Rattle.sshkey_calls.proofs.Signatures.{same_question}
use Rattle.sshkey_calls.proofs.signature.ask.Goals as goal

pub returns : goal.returns
returns c k g by made =
    let same = same_question (key_of c.in-Ok.key) k (signature_of c.in-Ok-to_signature.signature) g (key_bytes c.args.signer.now) c.args.message.now (signature_bytes c.args.made.now) c.in-Ok.ensures.spelled by c.in-Ok-to_signature.ensures.spelled made in
    subst (λ (q : Option model.Question). TellsQuestion q c.answer_question.result c.args.answer.now c.answer_question.new.answer c.args.room.now c.answer_question.new.room) (c.question.ensures ∙ same) c.answer_question.ensures
