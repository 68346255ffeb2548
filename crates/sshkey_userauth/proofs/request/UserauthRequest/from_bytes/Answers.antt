use Rattle.sshkey_base.specs.Causes.{cause}
use Rattle.sshkey_userauth.specs.Values.{request_of}
use Rattle.sshkey_userauth.proofs.Requests.{accepts_all}
use Rattle.sshkey_userauth.proofs.Lawful.{userauth_lawful}
use Rattle.sshkey_userauth.proofs.request.UserauthRequest.from_bytes.Goals as goal

pub returns-clause-accepts : goal.returns-clause-accepts
returns-clause-accepts c = accepts_all request_of cause userauth_lawful.grammar c.args.bytes.now c.whole_request.result c.whole_request.ensures
