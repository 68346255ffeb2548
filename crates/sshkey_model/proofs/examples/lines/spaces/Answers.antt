use Rattle.sshkey_model.proofs.LineExamples.{spaces}
use Rattle.sshkey_model.proofs.examples.lines.spaces.Goals as goal

pub returns : goal.returns
returns c = spaces
