use Rattle.std.proofs.Common.{◌∙◌, None, Some, lit<, sym}
use Rattle.std.proofs.lemmas.Str.Pattern.{contains_char, split_after, split_parts}
use Rattle.sshkey_entry_calls.specs.Destinations.{colon}
use Rattle.sshkey_entry_calls.proofs.Destinations.{alone, no_plain, no_second, one_plain}
use Rattle.sshkey_entry_calls.proofs.destination.read_plain.Goals as goal

pub returns-in_default : goal.returns-in_default
returns-in_default c = alone c.args.text.now (λ x is. split_after colon c.args.text.now x.0 x.1 None c.in_default.ensures.cases (lit< tt) is.is is.before)

pub returns-then-contains : goal.returns-then-contains
returns-then-contains c =
    let second = (contains_char colon c.in-Some.port.now c.contains.result c.contains.ensures.cases (lit< tt)).0 c.if-contains.true in
    alone c.args.text.now (λ x is.
    let same = split_after colon c.args.text.now x.0 x.1 (Some (c.in-Some.host, c.in-Some.port)) c.in-Some.ensures.cases (lit< tt) is.is is.before in
    no_second x.1 c.in-Some.port.now (sym same.1) is.behind second)

pub returns-in_default-read_port : goal.returns-in_default-read_port
returns-in_default-read_port c =
    let parts = split_parts colon c.args.text.now (Some (c.in-Some.host, c.in-Some.port)) c.in-Some.ensures.cases (lit< tt) in
    let found = contains_char colon c.in-Some.port.now c.contains.result c.contains.ensures.cases (lit< tt) in
    no_plain c.args.text.now c.in-Some.host.now c.in-Some.port.now (record { is = parts.0; before = parts.1; behind = λ i l e. cc (sym (found.1 i l e) ∙ c.if-contains.false) })
    (λ x is. (split_after colon c.args.text.now x.0 x.1 (Some (c.in-Some.host, c.in-Some.port)) c.in-Some.ensures.cases (lit< tt) is.is is.before).1)
    c.in_default-read_port.ensures

pub returns : goal.returns
returns c =
    let parts = split_parts colon c.args.text.now (Some (c.in-Some.host, c.in-Some.port)) c.in-Some.ensures.cases (lit< tt) in
    let found = contains_char colon c.in-Some.port.now c.contains.result c.contains.ensures.cases (lit< tt) in
    one_plain c.args.text.now c.in-Some.host.now c.in-Some.port.now c.in-Some-read_port.port (record { is = parts.0; before = parts.1; behind = λ i l e. cc (sym (found.1 i l e) ∙ c.if-contains.false) })
    (λ x is. split_after colon c.args.text.now x.0 x.1 (Some (c.in-Some.host, c.in-Some.port)) c.in-Some.ensures.cases (lit< tt) is.is is.before)
    c.in-Some-read_port.ensures.0
