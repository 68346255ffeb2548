use Rattle.sshkey_model.proofs.Trees.{determined}
use Rattle.sshkey_userauth.proofs.RequestTrees.{userauth_grammar, userauth_normal}
use Rattle.sshkey_userauth.proofs.laws.normal_userauth_requests.Goals as goal

pub returns : goal.returns
returns c = determined userauth_grammar userauth_normal
