use Rattle.sshkey_private.specs.PrivateKeys.{private_of}
use Rattle.sshkey_private.proofs.PrivateKeyTrees.{private_normal}
use Rattle.sshkey_private.proofs.private_key.PrivateKeyNormalForm.lawful_normal_form.Goals as goal

pub returns : goal.returns
returns c k = private_normal (private_of k)
