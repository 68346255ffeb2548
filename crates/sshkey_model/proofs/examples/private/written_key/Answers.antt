use Rattle.sshkey_model.proofs.PrivateExamples.{written_key}
use Rattle.sshkey_model.proofs.examples.private.written_key.Goals as goal

pub returns : goal.returns
returns c = written_key
