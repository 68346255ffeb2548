use Rattle.sshkey_model.proofs.PrivateExamples.{padding_lengths}
use Rattle.sshkey_model.proofs.examples.private.padding_lengths.Goals as goal

pub returns : goal.returns
returns c = padding_lengths
