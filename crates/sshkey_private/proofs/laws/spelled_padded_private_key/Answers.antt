use Rattle.std.proofs.Common.{arith}
use Rattle.sshkey_model.proofs.Trees.{spelled_alike}
use Rattle.sshkey_private.proofs.PrivateKeyTrees.{file_tree}
use Rattle.sshkey_private.proofs.laws.spelled_padded_private_key.Goals as goal

pub returns : goal.returns
returns c = spelled_alike (file_tree 256 (omega arith))
