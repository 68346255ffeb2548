use Rattle.sshkey_base.proofs.Accepted.{spelled_whole}
use Rattle.sshkey_keys.proofs.KeyReaders.{key_grammar}
use Rattle.sshkey_keys_ref.specs.Keys.{key_bytes}
use Rattle.sshkey_keys_ref.proofs.key_data_ref.KeyDataRef.parts.Goals as goal

pub returns : goal.returns
returns c = λ k s. c.key_in.ensures k (spelled_whole key_grammar (key_bytes c.args.self.now) k s)
