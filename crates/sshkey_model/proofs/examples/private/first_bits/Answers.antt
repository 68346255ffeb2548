use Rattle.sshkey_model.proofs.PrivateExamples.{first_bits}
use Rattle.sshkey_model.proofs.examples.private.first_bits.Goals as goal

pub returns : goal.returns
returns c = first_bits
