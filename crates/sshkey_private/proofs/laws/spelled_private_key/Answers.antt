use Rattle.sshkey_model.proofs.Trees.{spelled_alike}
use Rattle.sshkey_private.proofs.PrivateKeyTrees.{private_key_tree}
use Rattle.sshkey_private.proofs.laws.spelled_private_key.Goals as goal

pub returns : goal.returns
returns c = spelled_alike private_key_tree
