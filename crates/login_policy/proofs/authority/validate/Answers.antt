use Rattle.std.proofs.Common.{ap, subst, sym, ◌∙◌}
use Rattle.sshkey_cert.specs.Certificates.{certificate_of}
use Rattle.sshkey_cert.specs.Validity.{FindsAuthority, fingerprints_of, refusal_of}
use Rattle.sshkey_cert.specs.declared.certificate.refusal.CertificateRefusal.{CertificateRefusal}
use Rattle.std.specs.Prelude.{Option, option_map, true}
use Rattle.login_policy.specs.Logins.{login_of}
use Rattle.login_policy.specs.Refusals.{IsRevoked, NotValid, OtherAuthority}
use Rattle.login_policy.proofs.Logins.{found_wrong, refusal_by_these}
use Rattle.login_policy.proofs.authority.validate.Goals as goal

pub returns-in_default-clause-refused : goal.returns-in_default-clause-refused
returns-in_default-clause-refused g c = λ other. OtherAuthority (subst (FindsAuthority c.args.certificate.now (fingerprints_of c.args.login.now.authorities.now)) c.in_default.is c.in_ok-by.ensures.found)

pub returns-then-is_revoked-clause-refused : goal.returns-then-is_revoked-clause-refused
returns-then-is_revoked-clause-refused g c =
    let theirs = subst (FindsAuthority c.args.certificate.now (fingerprints_of c.args.login.now.authorities.now)) c.in-Some.is c.in_ok-by.ensures.found in
    λ other. IsRevoked theirs.0 (sym c.in-Ok.ensures.said ∙ c.if-is_revoked.true)

pub returns-in-None-clause-valid : goal.returns-in-None-clause-valid
returns-in-None-clause-valid g c =
    let l = login_of c.args.login.now (λ _. true) (g.R.Revocations.revokes c.args.revocations.now) in
    let theirs = subst (FindsAuthority c.args.certificate.now (fingerprints_of c.args.login.now.authorities.now)) c.in-Some.is c.in_ok-by.ensures.found in
    let says = refusal_by_these l (certificate_of c.args.certificate.now) _ theirs.0 c.refusal_of_time_or_user.ensures in
    sym says ∙ ap (λ (f : Option CertificateRefusal). option_map refusal_of f) c.in-None.is

pub returns-in-Some-refusal_of_time_or_user-clause-refused : goal.returns-in-Some-refusal_of_time_or_user-clause-refused
returns-in-Some-refusal_of_time_or_user-clause-refused g c =
    let l = login_of c.args.login.now (λ _. true) (g.R.Revocations.revokes c.args.revocations.now) in
    let theirs = subst (FindsAuthority c.args.certificate.now (fingerprints_of c.args.login.now.authorities.now)) c.in-Some.is c.in_ok-by.ensures.found in
    let says = refusal_by_these l (certificate_of c.args.certificate.now) _ theirs.0 c.refusal_of_time_or_user.ensures in
    λ other. NotValid theirs.0 (sym c.in-Ok.ensures.said ∙ c.if-is_revoked.false) _ (found_wrong _ _ _ says c.in-Some-refusal_of_time_or_user.is)
