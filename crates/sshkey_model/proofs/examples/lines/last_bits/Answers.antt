use Rattle.sshkey_model.proofs.LineExamples.{last_bits}
use Rattle.sshkey_model.proofs.examples.lines.last_bits.Goals as goal

pub returns : goal.returns
returns c = last_bits
