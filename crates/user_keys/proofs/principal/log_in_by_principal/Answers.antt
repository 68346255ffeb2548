use Rattle.std.proofs.Common.{ℕ, List, inl, inr, subst, sym}
use Rattle.std.proofs.lemmas.Result.{err_from_is_err_and}
use Rattle.login_terms.specs.Options.{terms_of}
use Rattle.sshkey_cert.specs.Certificates.{certificate_of}
use Rattle.sshkey_cert.specs.Validity.{fingerprints_of}
use Rattle.openssh_limits.specs.Padding.{padding}
use Rattle.user_keys.specs.Principals.{DecidesFirst, IsPrincipalLine, principal_login, Decides, MayDecide}
use Rattle.user_keys.proofs.CertificateLogins.{admitted, strict_by, unlisted, unread, unwanted}
use Rattle.user_keys.proofs.Principals.{named, not_allowed, one_name, undecided, unnamed}
use Rattle.user_keys.proofs.principal.log_in_by_principal.Goals as goal

pub returns-in_err-read-clause-exactly : goal.returns-in_err-read-clause-exactly
returns-in_err-read-clause-exactly g c =
    let l = principal_login c.args.login.now c.args.certificate.now (padding (g.V.RawVerifier.accepts c.args.verifier.now)) (g.R.Revocations.revokes c.args.revocations.now) in
    let trusted = fingerprints_of c.args.authorities.now in
    let one = c.one_certificate.ensures in
    let p = err_from_is_err_and c.from_residual.result c.from_residual.ensures.1 in
    rw (p.1, p.2) (λ other. unread one (IsPrincipalLine l.login) (λ x. trusted) l c.in_err-read.field-0.0 (c.in_err-read.ensures.refused other))

pub returns-in_err-read-clause-refused : goal.returns-in_err-read-clause-refused
returns-in_err-read-clause-refused g c =
    let p = err_from_is_err_and c.from_residual.result c.from_residual.ensures.1 in
    rw (p.1, p.2) (λ other. inl (c.in_err-read.ensures.refused other))

pub returns-in-Err-clause-exactly : goal.returns-in-Err-clause-exactly
returns-in-Err-clause-exactly g c =
    let l = principal_login c.args.login.now c.args.certificate.now (padding (g.V.RawVerifier.accepts c.args.verifier.now)) (g.R.Revocations.revokes c.args.revocations.now) in
    let trusted = fingerprints_of c.args.authorities.now in
    let one = c.one_certificate.ensures in
    let k = certificate_of c.in_ok-read.read in
    let spelled = c.in_ok-read.ensures.reads.0 in
    λ other. unlisted one (IsPrincipalLine l.login) (λ x. trusted) l k spelled (undecided l.login k c.in-Err.refusal (c.in-Err.ensures.exactly other))

pub returns-in-Err-clause-refused : goal.returns-in-Err-clause-refused
returns-in-Err-clause-refused g c =
    let l = principal_login c.args.login.now c.args.certificate.now (padding (g.V.RawVerifier.accepts c.args.verifier.now)) (g.R.Revocations.revokes c.args.revocations.now) in
    let trusted = fingerprints_of c.args.authorities.now in
    let one = c.one_certificate.ensures in
    let k = certificate_of c.in_ok-read.read in
    let spelled = c.in_ok-read.ensures.reads.0 in
    let accepted = c.in_ok-read.ensures.reads.1 in
    λ other. inr (k, spelled, accepted, inl (inl (c.in-Err.ensures.exactly other)))

pub returns-in_default-clause-exactly : goal.returns-in_default-clause-exactly
returns-in_default-clause-exactly g c =
    let l = principal_login c.args.login.now c.args.certificate.now (padding (g.V.RawVerifier.accepts c.args.verifier.now)) (g.R.Revocations.revokes c.args.revocations.now) in
    let k = certificate_of c.in_ok-read.read in
    let d = c.in-Ok.decision in
    absurd (unnamed k l.login.lines d.first.line (terms_of d.first.terms) d.name.now c.valid_principals.result.now c.valid_principals.ensures c.in-Ok.ensures.exactly.0 (c.listed_as.ensures.none c.in_default.is))

pub returns-in_default-clause-refused : goal.returns-in_default-clause-refused
returns-in_default-clause-refused g c =
    let l = principal_login c.args.login.now c.args.certificate.now (padding (g.V.RawVerifier.accepts c.args.verifier.now)) (g.R.Revocations.revokes c.args.revocations.now) in
    let k = certificate_of c.in_ok-read.read in
    let d = c.in-Ok.decision in
    absurd (unnamed k l.login.lines d.first.line (terms_of d.first.terms) d.name.now c.valid_principals.result.now c.valid_principals.ensures c.in-Ok.ensures.exactly.0 (c.listed_as.ensures.none c.in_default.is))

pub returns-in_err-check_terms-clause-exactly : goal.returns-in_err-check_terms-clause-exactly
returns-in_err-check_terms-clause-exactly g c =
    let l = principal_login c.args.login.now c.args.certificate.now (padding (g.V.RawVerifier.accepts c.args.verifier.now)) (g.R.Revocations.revokes c.args.revocations.now) in
    let trusted = fingerprints_of c.args.authorities.now in
    let one = c.one_certificate.ensures in
    let k = certificate_of c.in_ok-read.read in
    let spelled = c.in_ok-read.ensures.reads.0 in
    let d = c.in-Ok.decision in
    let name = c.in-Some.name.now in
    let decides = subst (λ (n : List ℕ). DecidesFirst k l.login.lines d.first.line (terms_of d.first.terms) n) (sym c.in-Some.ensures.found) c.in-Ok.ensures.exactly.0 in
    let p = err_from_is_err_and c.from_residual-in_err-check_terms.result c.from_residual-in_err-check_terms.ensures.1 in
    rw (p.1, p.2) (λ other. unlisted one (IsPrincipalLine l.login) (λ x. trusted) l k spelled (not_allowed l.login k d.first.line (terms_of d.first.terms) name decides c.in_err-check_terms.field-0.0 (c.in_err-check_terms.ensures other)))

pub returns-in_err-check_terms-clause-refused : goal.returns-in_err-check_terms-clause-refused
returns-in_err-check_terms-clause-refused g c =
    let l = principal_login c.args.login.now c.args.certificate.now (padding (g.V.RawVerifier.accepts c.args.verifier.now)) (g.R.Revocations.revokes c.args.revocations.now) in
    let trusted = fingerprints_of c.args.authorities.now in
    let one = c.one_certificate.ensures in
    let k = certificate_of c.in_ok-read.read in
    let spelled = c.in_ok-read.ensures.reads.0 in
    let accepted = c.in_ok-read.ensures.reads.1 in
    let d = c.in-Ok.decision in
    let name = c.in-Some.name.now in
    let decides = subst (λ (n : List ℕ). DecidesFirst k l.login.lines d.first.line (terms_of d.first.terms) n) (sym c.in-Some.ensures.found) c.in-Ok.ensures.exactly.0 in
    let p = err_from_is_err_and c.from_residual-in_err-check_terms.result c.from_residual-in_err-check_terms.ensures.1 in
    rw (p.1, p.2) (λ other. inr (k, spelled, accepted, inl (inr (d.first.line, terms_of d.first.terms, name, decides, c.in_err-check_terms.ensures other))))

pub returns-in_err-check_terms-clause-asks : goal.returns-in_err-check_terms-clause-asks
returns-in_err-check_terms-clause-asks g c =
    let l = principal_login c.args.login.now c.args.certificate.now (padding (g.V.RawVerifier.accepts c.args.verifier.now)) (g.R.Revocations.revokes c.args.revocations.now) in
    let trusted = fingerprints_of c.args.authorities.now in
    let one = c.one_certificate.ensures in
    let k = certificate_of c.in_ok-read.read in
    let spelled = c.in_ok-read.ensures.reads.0 in
    let d = c.in-Ok.decision in
    let name = c.in-Some.name.now in
    let decides = subst (λ (n : List ℕ). DecidesFirst k l.login.lines d.first.line (terms_of d.first.terms) n) (sym c.in-Some.ensures.found) c.in-Ok.ensures.exactly.0 in
    let p = err_from_is_err_and c.from_residual-in_err-check_terms.result c.from_residual-in_err-check_terms.ensures.1 in
    rw (p.1, p.2) (λ memory. inr (k, spelled, named k l.login.lines d.first.line (terms_of d.first.terms) name decides))

pub returns-in_err-granted-clause-exactly : goal.returns-in_err-granted-clause-exactly
returns-in_err-granted-clause-exactly g c =
    let l = principal_login c.args.login.now c.args.certificate.now (padding (g.V.RawVerifier.accepts c.args.verifier.now)) (g.R.Revocations.revokes c.args.revocations.now) in
    let trusted = fingerprints_of c.args.authorities.now in
    let one = c.one_certificate.ensures in
    let k = certificate_of c.in_ok-read.read in
    let spelled = c.in_ok-read.ensures.reads.0 in
    let d = c.in-Ok.decision in
    let name = c.in-Some.name.now in
    let decides = subst (λ (n : List ℕ). DecidesFirst k l.login.lines d.first.line (terms_of d.first.terms) n) (sym c.in-Some.ensures.found) c.in-Ok.ensures.exactly.0 in
    let p = err_from_is_err_and c.from_residual-in_err-granted.result c.from_residual-in_err-granted.ensures.1 in
    rw (p.1, p.2) (λ other. unwanted one (IsPrincipalLine l.login) (λ x. trusted) l k spelled name (one_name l.login k d.first.line (terms_of d.first.terms) name decides) (c.in_err-granted.ensures.exactly other))

pub returns-in_err-granted-clause-refused : goal.returns-in_err-granted-clause-refused
returns-in_err-granted-clause-refused g c =
    let l = principal_login c.args.login.now c.args.certificate.now (padding (g.V.RawVerifier.accepts c.args.verifier.now)) (g.R.Revocations.revokes c.args.revocations.now) in
    let trusted = fingerprints_of c.args.authorities.now in
    let one = c.one_certificate.ensures in
    let k = certificate_of c.in_ok-read.read in
    let spelled = c.in_ok-read.ensures.reads.0 in
    let accepted = c.in_ok-read.ensures.reads.1 in
    let d = c.in-Ok.decision in
    let name = c.in-Some.name.now in
    let decides = subst (λ (n : List ℕ). DecidesFirst k l.login.lines d.first.line (terms_of d.first.terms) n) (sym c.in-Some.ensures.found) c.in-Ok.ensures.exactly.0 in
    let p = err_from_is_err_and c.from_residual-in_err-granted.result c.from_residual-in_err-granted.ensures.1 in
    rw (p.1, p.2) (λ other. inr (k, spelled, accepted, inr (record { number = d.first.line; terms = terms_of d.first.terms; name = name; line = (decides, c.in_ok-check_terms.ensures); refused = c.in_err-granted.ensures.refused other })))

pub returns-in_err-granted-clause-asks : goal.returns-in_err-granted-clause-asks
returns-in_err-granted-clause-asks g c =
    let l = principal_login c.args.login.now c.args.certificate.now (padding (g.V.RawVerifier.accepts c.args.verifier.now)) (g.R.Revocations.revokes c.args.revocations.now) in
    let trusted = fingerprints_of c.args.authorities.now in
    let one = c.one_certificate.ensures in
    let k = certificate_of c.in_ok-read.read in
    let spelled = c.in_ok-read.ensures.reads.0 in
    let d = c.in-Ok.decision in
    let name = c.in-Some.name.now in
    let decides = subst (λ (n : List ℕ). DecidesFirst k l.login.lines d.first.line (terms_of d.first.terms) n) (sym c.in-Some.ensures.found) c.in-Ok.ensures.exactly.0 in
    let p = err_from_is_err_and c.from_residual-in_err-granted.result c.from_residual-in_err-granted.ensures.1 in
    rw (p.1, p.2) (λ memory. inr (k, spelled, named k l.login.lines d.first.line (terms_of d.first.terms) name decides))

pub returns-clause-exactly : goal.returns-clause-exactly
returns-clause-exactly g c =
    let l = principal_login c.args.login.now c.args.certificate.now (padding (g.V.RawVerifier.accepts c.args.verifier.now)) (g.R.Revocations.revokes c.args.revocations.now) in
    let trusted = fingerprints_of c.args.authorities.now in
    let one = c.one_certificate.ensures in
    let k = certificate_of c.in_ok-read.read in
    let spelled = c.in_ok-read.ensures.reads.0 in
    let accepted = c.in_ok-read.ensures.reads.1 in
    let d = c.in-Ok.decision in
    let name = c.in-Some.name.now in
    let decides = subst (λ (n : List ℕ). DecidesFirst k l.login.lines d.first.line (terms_of d.first.terms) n) (sym c.in-Some.ensures.found) c.in-Ok.ensures.exactly.0 in
    let policies = c.in_ok-granted.ensures.exactly in
    admitted one (IsPrincipalLine l.login) (λ x. trusted) l k spelled d.first c.merged.result name c.in_ok-granted.granted policies.0 policies.1 c.merged.ensures.line c.merged.ensures.terms accepted (decides, c.in_ok-check_terms.ensures) c.merged.ensures.certified

pub returns-clause-as_strict : goal.returns-clause-as_strict
returns-clause-as_strict g c =
    let l = principal_login c.args.login.now c.args.certificate.now (padding (g.V.RawVerifier.accepts c.args.verifier.now)) (g.R.Revocations.revokes c.args.revocations.now) in
    let trusted = fingerprints_of c.args.authorities.now in
    let one = c.one_certificate.ensures in
    let k = certificate_of c.in_ok-read.read in
    let spelled = c.in_ok-read.ensures.reads.0 in
    let d = c.in-Ok.decision in
    let name = c.in-Some.name.now in
    let decides = subst (λ (n : List ℕ). DecidesFirst k l.login.lines d.first.line (terms_of d.first.terms) n) (sym c.in-Some.ensures.found) c.in-Ok.ensures.exactly.0 in
    let policies = c.in_ok-granted.ensures.exactly in
    strict_by one (IsPrincipalLine l.login) (λ x. trusted) l k spelled d.first c.merged.result name c.in_ok-granted.granted policies.0 policies.1 c.merged.ensures.line c.merged.ensures.terms Decides MayDecide decides.0
