use Rattle.sshkey_model.proofs.LineExamples.{line_ends}
use Rattle.sshkey_model.proofs.examples.lines.line_ends.Goals as goal

pub returns : goal.returns
returns c = line_ends
