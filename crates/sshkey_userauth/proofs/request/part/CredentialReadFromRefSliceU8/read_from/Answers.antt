use Rattle.std.proofs.lemmas.Result.{err_from_is_err_and}
use Rattle.sshkey_base.specs.Causes.{cause}
use Rattle.sshkey_base.proofs.Places.{later_then}
use Rattle.sshkey_userauth.specs.RequestFormats.{credential_format, method_format}
use Rattle.sshkey_userauth.specs.Values.{credential_of, method_of}
use Rattle.sshkey_userauth.proofs.Requests.{call_gives, call_refused}
use Rattle.sshkey_userauth.proofs.request.part.CredentialReadFromRefSliceU8.read_from.Goals as goal

pub returns-in_err-method-clause-gives : goal.returns-in_err-method-clause-gives
returns-in_err-method-clause-gives c =
    let p = err_from_is_err_and c.from_residual.result c.from_residual.ensures.1 in
    rw (p.1, p.2) (call_refused method_format.read (λ m. (credential_format m).read) _ _ _ c.in_err-method.ensures.gives)

pub returns-clause-gives : goal.returns-clause-gives
returns-clause-gives c = call_gives method_format.read (λ m. (credential_format m).read) method_of credential_of cause _ _ _ _ _ c.in_ok-method.ensures.gives c.credential_from.ensures.gives

pub returns-clause-later : goal.returns-clause-later
returns-clause-later c = later_then _ _ _ c.in_ok-method.ensures.later c.credential_from.ensures.later
