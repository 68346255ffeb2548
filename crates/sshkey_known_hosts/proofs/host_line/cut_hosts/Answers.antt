use Rattle.std.proofs.Common.{sym, ◌∙◌, option_map}
use Rattle.sshkey_known_hosts.specs.HostEntries.{marker_of}
use Rattle.sshkey_known_hosts.proofs.HostCuts.{comment_hides, for_others, hosts_hide, marker_hides, named, zero_hides}
use Rattle.sshkey_known_hosts.proofs.host_line.cut_hosts.Goals as goal

pub returns-then-not-is_without : goal.returns-then-not-is_without
returns-then-not-is_without g c = zero_hides (g.H.HostHasher.hmac c.args.hmac.now) c.args.name.now c.args.line.now (λ without. cc (sym c.if-not-is_without.true ∙ c.is_without.ensures.1 without))

pub returns-in_default : goal.returns-in_default
returns-in_default g c = marker_hides (g.H.HostHasher.hmac c.args.hmac.now) c.args.name.now c.args.line.now c.skip_blanks-text.result.now c.skip_blanks-text.ensures c.in_default.ensures.1

pub returns-in-None : goal.returns-in-None
returns-in-None g c =
    hosts_hide (g.H.HostHasher.hmac c.args.hmac.now) c.args.name.now c.args.line.now c.skip_blanks-text.result.now c.skip_blanks-text.ensures (option_map marker_of c.in-Ok.marker) c.in-Ok.unmarked.now c.split_blank.result.0.now c.split_blank.result.1.now c.in-Ok.ensures c.split_blank.ensures
    c.in-None.ensures

pub returns-in-Some-false : goal.returns-in-Some-false
returns-in-Some-false g c =
    let told = c.in-Some-false.ensures in
    for_others (g.H.HostHasher.hmac c.args.hmac.now) c.args.name.now c.args.line.now c.skip_blanks-text.result.now c.skip_blanks-text.ensures (option_map marker_of c.in-Ok.marker) c.in-Ok.unmarked.now c.split_blank.result.0.now c.split_blank.result.1.now c.in-Ok.ensures c.split_blank.ensures
    told.0 told.1 (c.is_without.ensures.0 c.if-not-is_without.false) (λ fits. cc (sym c.in-Some-false.field-0-test ∙ told.2.1 fits))

pub returns-then-is_comment : goal.returns-then-is_comment
returns-then-is_comment g c =
    let told = c.in-Some-true.ensures in
    comment_hides (g.H.HostHasher.hmac c.args.hmac.now) c.args.name.now c.args.line.now c.skip_blanks-text.result.now c.skip_blanks-text.ensures (option_map marker_of c.in-Ok.marker) c.in-Ok.unmarked.now c.split_blank.result.0.now c.split_blank.result.1.now c.in-Ok.ensures c.split_blank.ensures
    told.0 told.1 (told.2.0 c.in-Some-true.field-0-test) (c.is_comment.ensures.0 c.if-is_comment.true)

pub returns-else-is_comment : goal.returns-else-is_comment
returns-else-is_comment g c =
    let told = c.in-Some-true.ensures in
    named (g.H.HostHasher.hmac c.args.hmac.now) c.args.name.now c.args.line.now c.skip_blanks-text.result.now c.skip_blanks-text.ensures (option_map marker_of c.in-Ok.marker) c.in-Ok.unmarked.now c.split_blank.result.0.now c.split_blank.result.1.now c.in-Ok.ensures c.split_blank.ensures
    told.0 told.1 (told.2.0 c.in-Some-true.field-0-test) (c.is_without.ensures.0 c.if-not-is_without.false)
    (λ here. cc (sym c.if-is_comment.false ∙ c.is_comment.ensures.1 here)) c.skip_blanks.result.now c.skip_blanks.ensures
