use Rattle.sshkey_model.proofs.PrivateExamples.{ed25519_pairs}
use Rattle.sshkey_model.proofs.examples.private.ed25519_pairs.Goals as goal

pub returns : goal.returns
returns c = ed25519_pairs
