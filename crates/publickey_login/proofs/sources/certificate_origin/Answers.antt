use Rattle.std.proofs.Common.{Ok, subst, sym, ◌∙◌, ap}
use Rattle.std.proofs.lemmas.Result.{err_from_is_err_and}
use Rattle.std.specs.Option.{option_or}
use Rattle.sshkey_cert.specs.Certificates.{certificate_of}
use Rattle.publickey_login.specs.Results.{OriginatesBy, SearchesIn, asked_of}
use Rattle.publickey_login.specs.Sources.{AuthorityLine}
use Rattle.publickey_login.specs.Stops.{IsWhyNoSource, refusal_for}
use Rattle.publickey_login.specs.Values.{trusted_of}
use Rattle.publickey_login.specs.declared.refusal.PublickeyRefusal.{PublickeyRefusal}
use Rattle.publickey_login.specs.declared.search.SourceVerdict.{SourceVerdict}
use Rattle.publickey_login.specs.declared.search.TextList.TheVariants as list
use Rattle.publickey_login.proofs.Origins.{by_authority, by_command, certificate_in_files, no_certificate_in_files, not_at_all, not_by_authority, not_by_command}
use Rattle.publickey_login.proofs.sources.certificate_origin.Goals as goal

pub returns-in_err-origin : goal.returns-in_err-origin
returns-in_err-origin c = λ l is.
    let p = err_from_is_err_and c.from_residual.result c.from_residual.ensures.1 in
    rw (p.1, p.2) (λ other. no_certificate_in_files l c.args.login.now c.args.trusted.now is (certificate_of c.args.certificate.now) c.in_err-origin.field-0.0 c.in_err-origin.ensures other)

pub returns-in-Lets : goal.returns-in-Lets
returns-in-Lets c = λ l is.
    let found = subst (λ (o : SourceVerdict). SearchesIn (asked_of c.args.login.now) (AuthorityLine (certificate_of c.args.certificate.now)) list.AuthorizedKeys (trusted_of c.args.trusted.now).authorized_keys (Ok o)) c.in-Lets.is c.in_ok-origin.ensures in
    certificate_in_files l c.args.login.now c.args.trusted.now is (certificate_of c.args.certificate.now) c.in-Lets.origin found

pub returns-in_err-origin-2 : goal.returns-in_err-origin-2
returns-in_err-origin-2 c = λ l is.
    let goes = subst (λ (o : SourceVerdict). SearchesIn (asked_of c.args.login.now) (AuthorityLine (certificate_of c.args.certificate.now)) list.AuthorizedKeys (trusted_of c.args.trusted.now).authorized_keys (Ok o)) c.in-Passes.is c.in_ok-origin.ensures in
    let p = err_from_is_err_and c.from_residual-in_err-origin-2.result c.from_residual-in_err-origin-2.ensures.1 in
    rw (p.1, p.2) (λ other. not_by_authority l c.args.login.now c.args.trusted.now is (certificate_of c.args.certificate.now) c.in-Passes.first goes c.in_err-origin-2.field-0.0 (c.in_err-origin-2.ensures l is) other)

pub returns-in-Lets-2 : goal.returns-in-Lets-2
returns-in-Lets-2 c = λ l is.
    let goes = subst (λ (o : SourceVerdict). SearchesIn (asked_of c.args.login.now) (AuthorityLine (certificate_of c.args.certificate.now)) list.AuthorizedKeys (trusted_of c.args.trusted.now).authorized_keys (Ok o)) c.in-Passes.is c.in_ok-origin.ensures in
    let found = subst (λ (o : SourceVerdict). OriginatesBy l (certificate_of c.args.certificate.now) (Ok o)) c.in-Lets-2.is (c.in_ok-origin-2.ensures l is) in
    by_authority l c.args.login.now c.args.trusted.now is (certificate_of c.args.certificate.now) c.in-Passes.first goes c.in-Lets-2.origin found

pub returns-in_err-origin-3 : goal.returns-in_err-origin-3
returns-in_err-origin-3 c = λ l is.
    let goes = subst (λ (o : SourceVerdict). SearchesIn (asked_of c.args.login.now) (AuthorityLine (certificate_of c.args.certificate.now)) list.AuthorizedKeys (trusted_of c.args.trusted.now).authorized_keys (Ok o)) c.in-Passes.is c.in_ok-origin.ensures in
    let also = subst (λ (o : SourceVerdict). OriginatesBy l (certificate_of c.args.certificate.now) (Ok o)) c.in-Passes-2.is (c.in_ok-origin-2.ensures l is) in
    let p = err_from_is_err_and c.from_residual-in_err-origin-3.result c.from_residual-in_err-origin-3.ensures.1 in
    rw (p.1, p.2) (λ other. not_by_command l c.args.login.now c.args.trusted.now is (certificate_of c.args.certificate.now) c.in-Passes.first goes c.in-Passes-2.first also c.in_err-origin-3.field-0.0 c.in_err-origin-3.ensures other)

pub returns-in-Lets-3 : goal.returns-in-Lets-3
returns-in-Lets-3 c = λ l is.
    let goes = subst (λ (o : SourceVerdict). SearchesIn (asked_of c.args.login.now) (AuthorityLine (certificate_of c.args.certificate.now)) list.AuthorizedKeys (trusted_of c.args.trusted.now).authorized_keys (Ok o)) c.in-Passes.is c.in_ok-origin.ensures in
    let also = subst (λ (o : SourceVerdict). OriginatesBy l (certificate_of c.args.certificate.now) (Ok o)) c.in-Passes-2.is (c.in_ok-origin-2.ensures l is) in
    let found = subst (λ (o : SourceVerdict). SearchesIn (asked_of c.args.login.now) (AuthorityLine (certificate_of c.args.certificate.now)) list.Command (trusted_of c.args.trusted.now).command_keys (Ok o)) c.in-Lets-3.is c.in_ok-origin-3.ensures in
    by_command l c.args.login.now c.args.trusted.now is (certificate_of c.args.certificate.now) c.in-Passes.first goes c.in-Passes-2.first also c.in-Lets-3.origin found

pub returns-in-Passes-3 : goal.returns-in-Passes-3
returns-in-Passes-3 c = λ l is other.
    let goes = subst (λ (o : SourceVerdict). SearchesIn (asked_of c.args.login.now) (AuthorityLine (certificate_of c.args.certificate.now)) list.AuthorizedKeys (trusted_of c.args.trusted.now).authorized_keys (Ok o)) c.in-Passes.is c.in_ok-origin.ensures in
    let also = subst (λ (o : SourceVerdict). OriginatesBy l (certificate_of c.args.certificate.now) (Ok o)) c.in-Passes-2.is (c.in_ok-origin-2.ensures l is) in
    let none = subst (λ (o : SourceVerdict). SearchesIn (asked_of c.args.login.now) (AuthorityLine (certificate_of c.args.certificate.now)) list.Command (trusted_of c.args.trusted.now).command_keys (Ok o)) c.in-Passes-3.is c.in_ok-origin-3.ensures in
    let first = c.or-in-Passes-3.ensures ∙ ap (option_or c.in-Passes.first) c.or.ensures in
    subst (λ (r : PublickeyRefusal). IsWhyNoSource l (certificate_of c.args.certificate.now) r) (sym (c.refusal_for.ensures ∙ ap refusal_for first)) (not_at_all l c.args.login.now c.args.trusted.now is (certificate_of c.args.certificate.now) c.in-Passes.first goes c.in-Passes-2.first also c.in-Passes-3.first none)
