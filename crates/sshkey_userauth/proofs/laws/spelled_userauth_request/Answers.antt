use Rattle.sshkey_model.proofs.Trees.{plain_alike}
use Rattle.sshkey_userauth.proofs.RequestTrees.{userauth_tree}
use Rattle.sshkey_userauth.proofs.laws.spelled_userauth_request.Goals as goal

pub returns : goal.returns
returns c = plain_alike userauth_tree
