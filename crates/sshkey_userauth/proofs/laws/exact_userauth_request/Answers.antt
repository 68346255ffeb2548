use Rattle.sshkey_userauth.proofs.RequestTrees.{userauth_grammar}
use Rattle.sshkey_userauth.proofs.laws.exact_userauth_request.Goals as goal

pub returns : goal.returns
returns c = userauth_grammar
