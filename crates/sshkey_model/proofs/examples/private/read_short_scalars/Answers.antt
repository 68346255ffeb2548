use Rattle.sshkey_model.proofs.PrivateExamples.{read_short_scalars}
use Rattle.sshkey_model.proofs.examples.private.read_short_scalars.Goals as goal

pub returns : goal.returns
returns c = read_short_scalars
