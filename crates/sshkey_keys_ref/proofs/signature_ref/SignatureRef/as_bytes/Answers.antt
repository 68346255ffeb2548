use Rattle.sshkey_keys.proofs.SignatureReaders.{signature_grammar}
use Rattle.sshkey_keys_ref.proofs.Acceptance.{some_spelled}
use Rattle.sshkey_keys_ref.proofs.signature_ref.SignatureRef.as_bytes.Goals as goal

pub returns-clause-spelled : goal.returns-clause-spelled
returns-clause-spelled c = some_spelled signature_grammar c.args.self.now.bytes.now c.args.self.now.form
