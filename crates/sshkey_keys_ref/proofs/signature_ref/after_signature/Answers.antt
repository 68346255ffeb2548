use Rattle.sshkey_base.specs.Causes.{cause}
use Rattle.sshkey_keys_ref.specs.KeyBytes.{named_of}
use Rattle.sshkey_keys_ref.proofs.WalkedBodies.{skips_signature}
use Rattle.sshkey_keys_ref.proofs.signature_ref.after_signature.Goals as goal

pub returns : goal.returns
returns c = skips_signature cause named_of c.args.bytes.now _ c.in_ok-name.name c.after_blob.result c.in_ok-name.ensures c.after_blob.ensures
