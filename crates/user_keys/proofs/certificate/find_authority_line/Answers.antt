use Rattle.std.proofs.Common.{◌≡◌, ◌∙◌, ℕ, List, [], Bor, Option, ap, false, option_map, string_bytes, sym, true}
use Rattle.std.proofs.lemmas.Result.{err_from_is_err_and}
use Rattle.login_terms.specs.Options.{terms_of}
use Rattle.sshkey_cert.specs.Certificates.{certificate_of}
use Rattle.user_keys.proofs.CertificateLogins.{no_line, no_name, ran_out}
use Rattle.user_keys.specs.CertificateLogins.{IsLineFor, login_with}
use Rattle.user_keys.specs.Certificates.{name_for, name_listed}
use Rattle.user_keys.specs.UserLogins.{login_of}
use Rattle.user_keys.proofs.certificate.find_authority_line.Goals as goal

pub returns-in_err-first-clause-exactly : goal.returns-in_err-first-clause-exactly
returns-in_err-first-clause-exactly c =
    let l = login_with c.args.login.now [] (λ q. true) (λ key identity. false) in
    let p = err_from_is_err_and c.from_residual.result c.from_residual.ensures.1 in
    rw (p.1, p.2) (λ other. no_line l (certificate_of c.args.certificate.now) c.in_err-first.field-0.0 (c.in_err-first.ensures.refused other))

pub returns-in_default-clause-exactly : goal.returns-in_default-clause-exactly
returns-in_default-clause-exactly c =
    let l = login_with c.args.login.now [] (λ q. true) (λ key identity. false) in
    let k = certificate_of c.args.certificate.now in
    let listed : option_map (λ n. n.now) c.name_listed.result ≡ name_for k c.args.login.now.user.now (terms_of c.in_ok-first.first.terms) = c.name_listed.ensures ∙ ap (λ (x : List (List ℕ)). name_listed x c.args.login.now.user.now (option_map string_bytes c.in_ok-first.first.terms.principals)) c.valid_principals.ensures in
    let none = sym listed ∙ ap (λ (o : Option (Bor (List ℕ))). option_map (λ n. n.now) o) c.in_default.is in
    λ other number t name is. no_name l k c.in_ok-first.first c.in_ok-first.ensures.exactly none

pub returns-in_default-clause-refused : goal.returns-in_default-clause-refused
returns-in_default-clause-refused c =
    let l = login_with c.args.login.now [] (λ q. true) (λ key identity. false) in
    let k = certificate_of c.args.certificate.now in
    let listed : option_map (λ n. n.now) c.name_listed.result ≡ name_for k c.args.login.now.user.now (terms_of c.in_ok-first.first.terms) = c.name_listed.ensures ∙ ap (λ (x : List (List ℕ)). name_listed x c.args.login.now.user.now (option_map string_bytes c.in_ok-first.first.terms.principals)) c.valid_principals.ensures in
    let none = sym listed ∙ ap (λ (o : Option (Bor (List ℕ))). option_map (λ n. n.now) o) c.in_default.is in
    λ other. absurd (no_name l k c.in_ok-first.first c.in_ok-first.ensures.exactly none)

pub returns-in_err-name-clause-exactly : goal.returns-in_err-name-clause-exactly
returns-in_err-name-clause-exactly c = ran_out (IsLineFor (login_of c.args.login.now) (certificate_of c.args.certificate.now)) c.from_residual-in_err-name.result c.from_residual-in_err-name.ensures.1
