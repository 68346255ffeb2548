use Rattle.sshkey_model.proofs.LineExamples.{no_texts}
use Rattle.sshkey_model.proofs.examples.lines.no_texts.Goals as goal

pub returns : goal.returns
returns c = no_texts
