use Rattle.std.proofs.Common.{◌∙◌, lit<, sym}
use Rattle.std.proofs.lemmas.Str.Pattern.{contains_char}
use Rattle.login_terms.specs.Values.{colon}
use Rattle.login_terms.proofs.Hosts.{listen_open, listen_port}
use Rattle.login_terms.proofs.permits.read_permit_listen.Goals as goal

pub returns-then-contains : goal.returns-then-contains
returns-then-contains c =
    let here = (contains_char colon c.args.text.now c.contains.result c.contains.ensures.cases (lit< tt)).0 c.if-contains.true in
    listen_open c.args.text.now (λ none. none here.0 here.1 here.2) c.read_permit_open.result c.read_permit_open.ensures

pub returns : goal.returns
returns c =
    let found = contains_char colon c.args.text.now c.contains.result c.contains.ensures.cases (lit< tt) in
    listen_port c.args.text.now (λ i l e. cc (sym (found.1 i l e) ∙ c.if-contains.false)) c.permit_at.result c.permit_at.ensures
