use Rattle.sshkey_userauth.specs.RequestFormats.{SpellsUserauthRequest}
use Rattle.sshkey_userauth.specs.Values.{request_of}
use Rattle.sshkey_userauth.proofs.Requests.{spelled_none, spelled_same}
use Rattle.sshkey_userauth.proofs.RequestTrees.{userauth_grammar}
use Rattle.sshkey_userauth.proofs.request.UserauthRequest.is_spelled.Goals as goal

pub returns-in-Err : goal.returns-in-Err
returns-in-Err c = spelled_none SpellsUserauthRequest (request_of c.args.self.now) c.args.bytes.now c.in-Err.ensures.accepts

pub returns-in-Ok : goal.returns-in-Ok
returns-in-Ok c = spelled_same userauth_grammar (request_of c.args.self.now) (request_of c.in-Ok.other) c.args.bytes.now _ c.is_same.ensures c.in-Ok.ensures.accepts
