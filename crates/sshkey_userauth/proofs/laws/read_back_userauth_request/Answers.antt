use Rattle.sshkey_model.proofs.Trees.{read_back}
use Rattle.sshkey_userauth.proofs.RequestTrees.{userauth_grammar, userauth_normal}
use Rattle.sshkey_userauth.proofs.laws.read_back_userauth_request.Goals as goal

pub returns : goal.returns
returns c = read_back userauth_grammar userauth_normal
