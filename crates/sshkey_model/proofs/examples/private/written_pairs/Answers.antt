use Rattle.sshkey_model.proofs.PrivateExamples.{written_pairs}
use Rattle.sshkey_model.proofs.examples.private.written_pairs.Goals as goal

pub returns : goal.returns
returns c = written_pairs
