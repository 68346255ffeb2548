use Rattle.sshkey_model.proofs.Trees.{plain_alike}
use Rattle.sshkey_ciphers.proofs.Lawful.{kdf_tree}
use Rattle.sshkey_ciphers.proofs.laws.spelled_kdf.Goals as goal

pub returns : goal.returns
returns c = plain_alike kdf_tree
