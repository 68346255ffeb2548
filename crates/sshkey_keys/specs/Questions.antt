-- What a question of the code means: one of the model.
use Rattle.std.specs.Cow.{cow_slice_items}
use Rattle.std.specs.Prelude.{Option}
use Rattle.sshkey_model.specs.Verification as model
use Rattle.sshkey_base.specs.Names.{algorithm_of}
use Rattle.sshkey_keys.specs.declared.question.Contents.{Contents}
use Rattle.sshkey_keys.specs.declared.question.Contents.TheVariants.{Itself, Within}
use Rattle.sshkey_keys.specs.declared.question.Question.{Question}
use Rattle.sshkey_keys.specs.declared.signature_question.SignatureQuestion.{SignatureQuestion}
use Rattle.sshkey_keys.specs.Keys.{key_of}
use Rattle.sshkey_keys.specs.Signatures.{signature_of}

abbrev pub contents_of : Contents → model.Question
contents_of (Itself algorithm key message blob) = record { algorithm = algorithm_of algorithm.now; key = key_of key.now; message = message.now; blob = blob.now }
contents_of (Within algorithm key message blob) = record { algorithm = algorithm_of algorithm; key = key_of key; message = message; blob = blob.now }

abbrev pub question_of : Question → model.Question
question_of q = contents_of q.0

-- the question that a signature raises, with its key and its message
abbrev pub asks : SignatureQuestion → Option model.Question
asks q = model.question (key_of q.key) (cow_slice_items q.message) (signature_of q.signature)
