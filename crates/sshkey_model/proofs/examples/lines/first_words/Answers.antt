use Rattle.sshkey_model.proofs.LineExamples.{first_words}
use Rattle.sshkey_model.proofs.examples.lines.first_words.Goals as goal

pub returns : goal.returns
returns c = first_words
