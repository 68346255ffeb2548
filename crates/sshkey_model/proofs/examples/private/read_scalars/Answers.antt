use Rattle.sshkey_model.proofs.PrivateExamples.{read_scalars}
use Rattle.sshkey_model.proofs.examples.private.read_scalars.Goals as goal

pub returns : goal.returns
returns c = read_scalars
