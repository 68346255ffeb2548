use Rattle.std.proofs.Common.{◌∙◌, lit<, sym}
use Rattle.std.proofs.lemmas.Str.Pattern.{contains_char}
use Rattle.login_terms.specs.Values.{parts_of, slash}
use Rattle.login_terms.proofs.Hosts.{no_permit, permit_open}
use Rattle.login_terms.proofs.permits.read_permit_open.Goals as goal

pub returns-in-Some : goal.returns-in-Some
returns-in-Some c =
    let found = contains_char slash c.args.text.now c.contains.result c.contains.ensures.cases (lit< tt) in
    permit_open c.args.text.now (parts_of (c.in-Some.host, c.in-Some.port)) (λ i l e. cc (sym (found.1 i l e) ∙ c.if-contains.false)) c.in-Some.ensures.0 c.in-Some.ensures.1 c.permit_at.result c.permit_at.ensures

pub returns-in-None : goal.returns-in-None
returns-in-None c =
    let found = contains_char slash c.args.text.now c.contains.result c.contains.ensures.cases (lit< tt) in
    no_permit c.args.text.now (λ i l e. cc (sym (found.1 i l e) ∙ c.if-contains.false)) c.in-None.ensures
