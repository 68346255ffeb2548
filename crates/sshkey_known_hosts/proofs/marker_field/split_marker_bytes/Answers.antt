use Rattle.std.proofs.Common.{sym, refl, ◌∙◌}
use Rattle.std.proofs.lemmas.Result.{err_from_is_err_and}
use Rattle.sshkey_known_hosts.specs.HostEntries.{marker_of}
use Rattle.sshkey_known_hosts.proofs.HostLines.{marked, no_end, no_marker, two_markers}
use Rattle.sshkey_known_hosts.proofs.marker_field.split_marker_bytes.Goals as goal

pub returns-then-not-is_marked : goal.returns-then-not-is_marked
returns-then-not-is_marked c = (refl, λ here. cc (sym c.if-not-is_marked.true ∙ c.is_marked.ensures.1 here))

pub returns-in_err-marker : goal.returns-in_err-marker
returns-in_err-marker c = let p = err_from_is_err_and c.from_residual.result c.from_residual.ensures.1 in
    rw (p.1, p.2) (c.in_err-marker.ensures.0, no_marker c.args.text.now c.split_blank.result.0.now c.split_blank.result.1.now _ c.split_blank.ensures refl (c.is_marked.ensures.0 c.if-not-is_marked.false) c.in_err-marker.ensures.1)

pub returns-then-not-ends_marker : goal.returns-then-not-ends_marker
returns-then-not-ends_marker c = (refl, no_end c.args.text.now c.split_blank.result.0.now c.split_blank.result.1.now _ c.split_blank.ensures refl (marker_of c.in_ok-marker.marker) c.in_ok-marker.ensures (λ ends. cc (sym c.if-not-ends_marker.true ∙ c.ends_marker.ensures.1 ends)) (c.is_marked.ensures.0 c.if-not-is_marked.false))

pub returns-then-is_marked : goal.returns-then-is_marked
returns-then-is_marked c = (refl, two_markers c.args.text.now c.split_blank.result.0.now c.split_blank.result.1.now c.skip_blanks-rest.result.now c.split_blank.ensures c.skip_blanks-rest.ensures (c.is_marked.ensures.0 c.if-not-is_marked.false) (c.is_marked-2.ensures.0 c.if-is_marked.true))

pub returns : goal.returns
returns c = marked c.args.text.now c.split_blank.result.0.now c.split_blank.result.1.now c.skip_blanks-rest.result.now c.split_blank.ensures c.skip_blanks-rest.ensures (marker_of c.in_ok-marker.marker) c.in_ok-marker.ensures (c.ends_marker.ensures.0 c.if-not-ends_marker.false) (λ here. cc (sym c.if-is_marked.false ∙ c.is_marked-2.ensures.1 here))
