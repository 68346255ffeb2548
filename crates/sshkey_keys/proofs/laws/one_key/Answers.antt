use Rattle.sshkey_model.proofs.Grammars.{one_front}
use Rattle.sshkey_keys.proofs.KeyReaders.{key_grammar}
use Rattle.sshkey_keys.proofs.laws.one_key.Goals as goal

pub returns : goal.returns
returns c = one_front key_grammar
