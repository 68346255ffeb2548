use Rattle.sshkey_fingerprints.proofs.Encoded.{one_fingerprint}
use Rattle.sshkey_fingerprints.proofs.laws.fingerprint_texts.Goals as goal

pub returns : goal.returns
returns c = one_fingerprint
