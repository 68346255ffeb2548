use Rattle.sshkey_model.proofs.PrivateExamples.{ecdsa_pairs}
use Rattle.sshkey_model.proofs.examples.private.ecdsa_pairs.Goals as goal

pub returns : goal.returns
returns c = ecdsa_pairs
