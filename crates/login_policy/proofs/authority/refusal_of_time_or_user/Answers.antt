use Rattle.std.proofs.Common.{refl}
use Rattle.sshkey_cert.specs.Certificates.{certificate_of}
use Rattle.login_policy.proofs.Logins.{allows_is}
use Rattle.login_policy.proofs.authority.refusal_of_time_or_user.Goals as goal

pub returns : goal.returns
returns c =
    let named = allows_is c.allows_principal.result (certificate_of c.args.certificate.now).signed.valid_principals c.args.login.now.user.now c.allows_principal.ensures in
    rw (c.refusal_with_principal.ensures, c.refusal_of_authority_or_time-first.ensures, c.valid_after.ensures.value, c.valid_before.ensures.value, named) refl
