use Rattle.sshkey_model.proofs.PrivateExamples.{written_scalars}
use Rattle.sshkey_model.proofs.examples.private.written_scalars.Goals as goal

pub returns : goal.returns
returns c = written_scalars
