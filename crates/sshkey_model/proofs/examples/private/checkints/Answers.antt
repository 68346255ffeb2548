use Rattle.sshkey_model.proofs.PrivateExamples.{checkints}
use Rattle.sshkey_model.proofs.examples.private.checkints.Goals as goal

pub returns : goal.returns
returns c = checkints
