use Rattle.std.proofs.Common.{ℕ, List, inr, subst, sym}
use Rattle.std.proofs.lemmas.Result.{err_from_is_err_and}
use Rattle.login_terms.specs.Options.{terms_of}
use Rattle.sshkey_cert.specs.Certificates.{certificate_of}
use Rattle.user_keys.specs.Principals.{DecidesFirst, IsPrincipalLine, IsWhyUndecided, login_in_place}
use Rattle.user_keys.proofs.CertificateLogins.{ran_out, ran_out_else}
use Rattle.user_keys.proofs.Principals.{not_allowed, undecided, unnamed}
use Rattle.user_keys.proofs.principal.find_principal_line.Goals as goal

pub returns-in-Err-clause-exactly : goal.returns-in-Err-clause-exactly
returns-in-Err-clause-exactly c = λ other. undecided (login_in_place c.args.login.now) (certificate_of c.args.certificate.now) c.in-Err.refusal (c.in-Err.ensures.exactly other)

pub returns-in_default-clause-exactly : goal.returns-in_default-clause-exactly
returns-in_default-clause-exactly c =
    let k = certificate_of c.args.certificate.now in
    let d = c.in-Ok.decision in
    absurd (unnamed k (login_in_place c.args.login.now).lines d.first.line (terms_of d.first.terms) d.name.now c.valid_principals.result.now c.valid_principals.ensures c.in-Ok.ensures.exactly.0 (c.listed_as.ensures.none c.in_default.is))

pub returns-in_default-clause-refused : goal.returns-in_default-clause-refused
returns-in_default-clause-refused c =
    let k = certificate_of c.args.certificate.now in
    let d = c.in-Ok.decision in
    absurd (unnamed k (login_in_place c.args.login.now).lines d.first.line (terms_of d.first.terms) d.name.now c.valid_principals.result.now c.valid_principals.ensures c.in-Ok.ensures.exactly.0 (c.listed_as.ensures.none c.in_default.is))

pub returns-in_err-check_terms-clause-exactly : goal.returns-in_err-check_terms-clause-exactly
returns-in_err-check_terms-clause-exactly c =
    let k = certificate_of c.args.certificate.now in
    let u = login_in_place c.args.login.now in
    let d = c.in-Ok.decision in
    let decides = subst (λ (n : List ℕ). DecidesFirst k u.lines d.first.line (terms_of d.first.terms) n) (sym c.in-Some.ensures.found) c.in-Ok.ensures.exactly.0 in
    let p = err_from_is_err_and c.from_residual.result c.from_residual.ensures.1 in
    rw (p.1, p.2) (λ other. not_allowed u k d.first.line (terms_of d.first.terms) c.in-Some.name.now decides c.in_err-check_terms.field-0.0 (c.in_err-check_terms.ensures other))

pub returns-in_err-check_terms-clause-refused : goal.returns-in_err-check_terms-clause-refused
returns-in_err-check_terms-clause-refused c =
    let k = certificate_of c.args.certificate.now in
    let u = login_in_place c.args.login.now in
    let d = c.in-Ok.decision in
    let p = err_from_is_err_and c.from_residual.result c.from_residual.ensures.1 in
    rw (p.1, p.2) (λ other. inr (d.first.line, terms_of d.first.terms, d.name.now, c.in-Ok.ensures.exactly.0, c.in_err-check_terms.ensures other))

pub returns-in_err-name-clause-exactly : goal.returns-in_err-name-clause-exactly
returns-in_err-name-clause-exactly c = ran_out (IsPrincipalLine (login_in_place c.args.login.now) (certificate_of c.args.certificate.now)) c.from_residual-in_err-name.result c.from_residual-in_err-name.ensures.1

pub returns-in_err-name-clause-refused : goal.returns-in_err-name-clause-refused
returns-in_err-name-clause-refused c = ran_out_else (IsWhyUndecided (login_in_place c.args.login.now) (certificate_of c.args.certificate.now)) c.from_residual-in_err-name.result c.from_residual-in_err-name.ensures.1

pub returns-clause-exactly : goal.returns-clause-exactly
returns-clause-exactly c =
    let k = certificate_of c.args.certificate.now in
    let u = login_in_place c.args.login.now in
    let d = c.in-Ok.decision in
    let decides = subst (λ (n : List ℕ). DecidesFirst k u.lines d.first.line (terms_of d.first.terms) n) (sym c.in-Some.ensures.found) c.in-Ok.ensures.exactly.0 in
    (subst (λ (n : List ℕ). DecidesFirst k u.lines d.first.line (terms_of d.first.terms) n) (sym c.in_ok-name.ensures.ok) decides, c.in_ok-check_terms.ensures)
