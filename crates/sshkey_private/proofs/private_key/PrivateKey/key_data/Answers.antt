use Rattle.sshkey_pairs.specs.Keypairs.{pair_of}
use Rattle.sshkey_public.specs.PublicKeys.{comment_of}
use Rattle.sshkey_private.specs.PrivateKeys.{key_fields}
use Rattle.sshkey_private.proofs.KeyForms.{pair_formed}
use Rattle.sshkey_private.proofs.private_key.PrivateKey.key_data.Goals as goal

pub returns-clause-form : goal.returns-clause-form
returns-clause-form c =
    let k = c.args.self.now in
    pair_formed (pair_of k.key_data) k.checkint (comment_of k.public_key) (key_fields k)
