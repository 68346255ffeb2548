use Rattle.sshkey_pairs.specs.Keypairs.{pair_of}
use Rattle.sshkey_private.specs.PrivateKeys.{key_fields}
use Rattle.sshkey_private.proofs.KeyForms.{cipher_is}
use Rattle.sshkey_private.proofs.private_key.PrivateKey.cipher.Goals as goal

pub returns : goal.returns
returns c = cipher_is _ _ (key_fields c.args.self.now) (pair_of c.args.self.now.key_data) c.args.self.now.form
