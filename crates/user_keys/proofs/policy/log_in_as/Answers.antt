use Rattle.std.proofs.Common.{subst, sym}
use Rattle.std.proofs.lemmas.Result.{err_from_is_err_and}
use Rattle.login_policy.specs.Logins.{IsGrantOf, IsLogin}
use Rattle.login_policy.specs.Logins as policy
use Rattle.login_policy.specs.Refusals.{RefusesLogin}
use Rattle.sshkey_cert.specs.Validity.{fingerprints_of}
use Rattle.openssh_limits.specs.Padding.{padding}
use Rattle.user_keys.specs.CertificateLogins.{login_with}
use Rattle.user_keys.proofs.CertificateLogins.{asked, other_refusal}
use Rattle.user_keys.proofs.policy.log_in_as.Goals as goal

pub returns-in_err-granted-clause-exactly : goal.returns-in_err-granted-clause-exactly
returns-in_err-granted-clause-exactly g c =
    let l = login_with c.args.login.now c.args.certificate.now (padding (g.V.RawVerifier.accepts c.args.verifier.now)) (g.R.Revocations.revokes c.args.revocations.now) in
    let same = asked l (fingerprints_of c.args.authorities.now) c.args.name.now c.client_of.result c.client_of.ensures in
    let p = err_from_is_err_and c.from_residual.result c.from_residual.ensures.1 in
    rw p.1 (λ other is. c.in_err-granted.ensures.exactly (other_refusal _ p.0 p.2 other).0 (subst (λ (q : policy.Login). IsLogin q) (sym same) is))

pub returns-in_err-granted-clause-refused : goal.returns-in_err-granted-clause-refused
returns-in_err-granted-clause-refused g c =
    let l = login_with c.args.login.now c.args.certificate.now (padding (g.V.RawVerifier.accepts c.args.verifier.now)) (g.R.Revocations.revokes c.args.revocations.now) in
    let same = asked l (fingerprints_of c.args.authorities.now) c.args.name.now c.client_of.result c.client_of.ensures in
    let p = err_from_is_err_and c.from_residual.result c.from_residual.ensures.1 in
    rw p.1 (λ other.
    let is = other_refusal _ p.0 p.2 other in
    (c.in_err-granted.field-0.0, subst (λ (q : policy.Login). RefusesLogin q c.in_err-granted.field-0.0) same (c.in_err-granted.ensures.refused is.0), is.1))

pub returns-clause-exactly : goal.returns-clause-exactly
returns-clause-exactly g c =
    let l = login_with c.args.login.now c.args.certificate.now (padding (g.V.RawVerifier.accepts c.args.verifier.now)) (g.R.Revocations.revokes c.args.revocations.now) in
    let same = asked l (fingerprints_of c.args.authorities.now) c.args.name.now c.client_of.result c.client_of.ensures in
    subst (λ (q : policy.Login). (is : IsLogin q) × IsGrantOf is.certificate c.in_ok-granted.granted) same c.in_ok-granted.ensures.exactly
