use Rattle.std.proofs.Common.{◌∙◌, ℕ, List, [], ◌∷◌, ◌++◌, None, Some, ap, lit<, refl, sym}
use Rattle.std.proofs.lemmas.Str.Pattern.{split_after, split_parts, strip_prefix_char}
use Rattle.sshkey_entry_calls.specs.Destinations.{closing_bracket, colon}
use Rattle.sshkey_entry_calls.proofs.Destinations.{empty, no_colon_behind, no_port_at_end, no_port_behind, port_behind, same_destination}
use Rattle.sshkey_entry_calls.proofs.destination.read_bracketed.Goals as goal

pub returns-in_default : goal.returns-in_default
returns-in_default c = λ d is. split_after closing_bracket c.args.inside.now d.host is.after None c.in_default.ensures.cases (lit< tt) is.is is.one_host

pub returns-then-is_empty : goal.returns-then-is_empty
returns-then-is_empty c =
    let parts = split_parts closing_bracket c.args.inside.now (Some (c.in-Some.host, c.in-Some.after)) c.in-Some.ensures.cases (lit< tt) in
    let nothing = (empty c.in-Some.after.now c.is_empty.result c.is_empty.ensures).0 c.if-is_empty.true in (
      record { after = []; is = parts.0 ∙ ap (λ (b : List ℕ). c.in-Some.host.now ++ (closing_bracket ∷ b)) nothing; one_host = parts.1; port_is = refl },
      λ d is.
          let same = split_after closing_bracket c.args.inside.now d.host is.after (Some (c.in-Some.host, c.in-Some.after)) c.in-Some.ensures.cases (lit< tt) is.is is.one_host in
          same_destination d c.in-Some.host.now None (sym same.0) (no_port_at_end is.after d.port is.port_is (sym same.1 ∙ nothing)),
    )

pub returns-in_default-strip_prefix : goal.returns-in_default-strip_prefix
returns-in_default-strip_prefix c = λ d is.
    let same = split_after closing_bracket c.args.inside.now d.host is.after (Some (c.in-Some.host, c.in-Some.after)) c.in-Some.ensures.cases (lit< tt) is.is is.one_host in
    let some = (empty c.in-Some.after.now c.is_empty.result c.is_empty.ensures).1 c.if-is_empty.false in
    let other = strip_prefix_char colon c.in-Some.after.now None c.in_default-strip_prefix.ensures.cases (lit< tt) in
    no_colon_behind is.after d.port is.port_is (λ e. some (same.1 ∙ e)) (λ port e. other port (same.1 ∙ e))

pub returns-in_default-read_port : goal.returns-in_default-read_port
returns-in_default-read_port c = λ d is.
    let same = split_after closing_bracket c.args.inside.now d.host is.after (Some (c.in-Some.host, c.in-Some.after)) c.in-Some.ensures.cases (lit< tt) is.is is.one_host in
    let behind = strip_prefix_char colon c.in-Some.after.now (Some c.in-Some-strip_prefix.port) c.in-Some-strip_prefix.ensures.cases (lit< tt) in
    no_port_behind is.after c.in-Some-strip_prefix.port.now d.port is.port_is (sym same.1 ∙ behind) c.in_default-read_port.ensures

pub returns : goal.returns
returns c =
    let parts = split_parts closing_bracket c.args.inside.now (Some (c.in-Some.host, c.in-Some.after)) c.in-Some.ensures.cases (lit< tt) in
    let behind = strip_prefix_char colon c.in-Some.after.now (Some c.in-Some-strip_prefix.port) c.in-Some-strip_prefix.ensures.cases (lit< tt) in (
      record { after = c.in-Some.after.now; is = parts.0; one_host = parts.1; port_is = (c.in-Some-strip_prefix.port.now, behind, c.in-Some-read_port.ensures.0) },
      λ d is.
          let same = split_after closing_bracket c.args.inside.now d.host is.after (Some (c.in-Some.host, c.in-Some.after)) c.in-Some.ensures.cases (lit< tt) is.is is.one_host in
          same_destination d c.in-Some.host.now (Some c.in-Some-read_port.port) (sym same.0) (port_behind is.after c.in-Some-strip_prefix.port.now c.in-Some-read_port.port d.port is.port_is (sym same.1 ∙ behind) c.in-Some-read_port.ensures.0),
    )
