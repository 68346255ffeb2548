use Rattle.sshkey_keys.proofs.KeyReaders.{key_grammar}
use Rattle.sshkey_keys_ref.proofs.Acceptance.{some_spelled}
use Rattle.sshkey_keys_ref.proofs.key_data_ref.KeyDataRef.as_bytes.Goals as goal

pub returns-clause-spelled : goal.returns-clause-spelled
returns-clause-spelled c = some_spelled key_grammar c.args.self.now.bytes.now c.args.self.now.form
