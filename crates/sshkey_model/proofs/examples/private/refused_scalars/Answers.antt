use Rattle.sshkey_model.proofs.PrivateExamples.{refused_scalars}
use Rattle.sshkey_model.proofs.examples.private.refused_scalars.Goals as goal

pub returns : goal.returns
returns c = refused_scalars
