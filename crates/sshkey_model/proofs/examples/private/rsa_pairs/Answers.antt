use Rattle.sshkey_model.proofs.PrivateExamples.{rsa_pairs}
use Rattle.sshkey_model.proofs.examples.private.rsa_pairs.Goals as goal

pub returns : goal.returns
returns c = rsa_pairs
