use Rattle.sshkey_base.specs.Causes.{cause}
use Rattle.sshkey_model.specs.Reading.{whole}
use Rattle.sshkey_keys.specs.Signatures.{signature_of}
use Rattle.sshkey_model.specs.Signatures.{signature_at, SpellsSignature}
use Rattle.sshkey_keys_ref.proofs.WalkedBodies.{taken_again}
use Rattle.sshkey_keys_ref.proofs.Acceptance.{spelled_of}
use Rattle.sshkey_keys_ref.proofs.signature_ref.SignatureRef.to_signature.Goals as goal

pub returns-clause-value : goal.returns-clause-value
returns-clause-value c = (taken_again signature_of cause (whole signature_at) c.args.self.now.bytes.now c.decode_whole.result c.args.self.now.form c.decode_whole.ensures.gives).0

pub returns-clause-memory : goal.returns-clause-memory
returns-clause-memory c = (taken_again signature_of cause (whole signature_at) c.args.self.now.bytes.now c.decode_whole.result c.args.self.now.form c.decode_whole.ensures.gives).1

pub returns-clause-spelled : goal.returns-clause-spelled
returns-clause-spelled c = spelled_of signature_of SpellsSignature cause c.args.self.now.bytes.now c.decode_whole.result c.decode_whole.ensures.accepts
