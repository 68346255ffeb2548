use Rattle.sshkey_keys.proofs.SignatureForms.{well_formed}
use Rattle.sshkey_keys.proofs.signature.Signature.as_bytes.Goals as goal

pub returns-clause-form : goal.returns-clause-form
returns-clause-form c = rw c.as_slice.ensures (well_formed _ _ c.args.self.now.form)
