use Rattle.sshkey_model.proofs.Grammars.{one_front}
use Rattle.sshkey_userauth.proofs.RequestTrees.{userauth_grammar}
use Rattle.sshkey_userauth.proofs.laws.one_userauth_request.Goals as goal

pub returns : goal.returns
returns c = one_front userauth_grammar
