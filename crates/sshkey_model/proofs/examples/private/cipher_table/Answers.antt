use Rattle.sshkey_model.proofs.PrivateExamples.{cipher_table}
use Rattle.sshkey_model.proofs.examples.private.cipher_table.Goals as goal

pub returns : goal.returns
returns c = cipher_table
