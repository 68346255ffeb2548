use Rattle.sshkey_model.proofs.Grammars.{one_front}
use Rattle.sshkey_keys.proofs.SignatureReaders.{signature_grammar}
use Rattle.sshkey_keys.proofs.laws.one_signature.Goals as goal

pub returns : goal.returns
returns c = one_front signature_grammar
