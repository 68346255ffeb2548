use Rattle.std.proofs.Common.{Ok, subst, sym, ◌∙◌, ap}
use Rattle.std.proofs.lemmas.Result.{err_from_is_err_and}
use Rattle.sshkey_keys.specs.Keys.{key_of}
use Rattle.publickey_login.specs.Results.{SearchesIn, asked_of}
use Rattle.publickey_login.specs.Sources.{KeyLine}
use Rattle.publickey_login.specs.Stops.{IsWhyNoKeySource, refusal_for}
use Rattle.publickey_login.specs.Values.{trusted_of}
use Rattle.publickey_login.specs.declared.refusal.PublickeyRefusal.{PublickeyRefusal}
use Rattle.publickey_login.specs.declared.search.SourceVerdict.{SourceVerdict}
use Rattle.publickey_login.specs.declared.search.TextList.TheVariants as list
use Rattle.publickey_login.proofs.Origins.{key_by_command, key_in_files, no_key_at_all, no_key_by_command, no_key_in_files}
use Rattle.publickey_login.proofs.sources.key_origin.Goals as goal

pub returns-in_err-origin : goal.returns-in_err-origin
returns-in_err-origin c = λ l is.
    let p = err_from_is_err_and c.from_residual.result c.from_residual.ensures.1 in
    rw (p.1, p.2) (λ other. no_key_in_files l c.args.login.now c.args.trusted.now is (key_of c.args.key.now) c.in_err-origin.field-0.0 c.in_err-origin.ensures other)

pub returns-in-Lets : goal.returns-in-Lets
returns-in-Lets c = λ l is.
    let found = subst (λ (o : SourceVerdict). SearchesIn (asked_of c.args.login.now) (KeyLine (key_of c.args.key.now)) list.AuthorizedKeys (trusted_of c.args.trusted.now).authorized_keys (Ok o)) c.in-Lets.is c.in_ok-origin.ensures in
    key_in_files l c.args.login.now c.args.trusted.now is (key_of c.args.key.now) c.in-Lets.origin found

pub returns-in_err-origin-2 : goal.returns-in_err-origin-2
returns-in_err-origin-2 c = λ l is.
    let goes = subst (λ (o : SourceVerdict). SearchesIn (asked_of c.args.login.now) (KeyLine (key_of c.args.key.now)) list.AuthorizedKeys (trusted_of c.args.trusted.now).authorized_keys (Ok o)) c.in-Passes.is c.in_ok-origin.ensures in
    let p = err_from_is_err_and c.from_residual-in_err-origin-2.result c.from_residual-in_err-origin-2.ensures.1 in
    rw (p.1, p.2) (λ other. no_key_by_command l c.args.login.now c.args.trusted.now is (key_of c.args.key.now) c.in-Passes.first goes c.in_err-origin-2.field-0.0 c.in_err-origin-2.ensures other)

pub returns-in-Lets-2 : goal.returns-in-Lets-2
returns-in-Lets-2 c = λ l is.
    let goes = subst (λ (o : SourceVerdict). SearchesIn (asked_of c.args.login.now) (KeyLine (key_of c.args.key.now)) list.AuthorizedKeys (trusted_of c.args.trusted.now).authorized_keys (Ok o)) c.in-Passes.is c.in_ok-origin.ensures in
    let found = subst (λ (o : SourceVerdict). SearchesIn (asked_of c.args.login.now) (KeyLine (key_of c.args.key.now)) list.Command (trusted_of c.args.trusted.now).command_keys (Ok o)) c.in-Lets-2.is c.in_ok-origin-2.ensures in
    key_by_command l c.args.login.now c.args.trusted.now is (key_of c.args.key.now) c.in-Passes.first goes c.in-Lets-2.origin found

pub returns-in-Passes-2 : goal.returns-in-Passes-2
returns-in-Passes-2 c = λ l is other.
    let goes = subst (λ (o : SourceVerdict). SearchesIn (asked_of c.args.login.now) (KeyLine (key_of c.args.key.now)) list.AuthorizedKeys (trusted_of c.args.trusted.now).authorized_keys (Ok o)) c.in-Passes.is c.in_ok-origin.ensures in
    let also = subst (λ (o : SourceVerdict). SearchesIn (asked_of c.args.login.now) (KeyLine (key_of c.args.key.now)) list.Command (trusted_of c.args.trusted.now).command_keys (Ok o)) c.in-Passes-2.is c.in_ok-origin-2.ensures in
    subst (λ (r : PublickeyRefusal). IsWhyNoKeySource l (key_of c.args.key.now) r) (sym (c.refusal_for.ensures ∙ ap refusal_for c.or.ensures)) (no_key_at_all l c.args.login.now c.args.trusted.now is (key_of c.args.key.now) c.in-Passes.first c.in-Passes-2.first goes also)
