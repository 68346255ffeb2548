use Rattle.std.proofs.Common.{lit<, sym, refl, ◌∙◌, option_map}
use Rattle.std.proofs.lemmas.Result.{err_from_is_err_and}
use Rattle.sshkey_known_hosts.specs.HostEntries.{hosts_of, marker_of}
use Rattle.sshkey_known_hosts.proofs.Hosts.{have_parts, refused_parts}
use Rattle.sshkey_known_hosts.proofs.HostLines.{hosts_fault, key_fault, marker_fault, zero_fault, comment_read, comment_fault, no_marker_read, text_fault, bad_hosts, bad_host_key, line_needs, line_read, with_it, without_it}
use Rattle.sshkey_known_hosts.proofs.entry.Entry.from_line_openssh.Goals as goal

pub returns-then-contains-clause-reads : goal.returns-then-contains-clause-reads
returns-then-contains-clause-reads c = λ _ _ k. with_it 0 (lit< tt) _ _ c.contains.ensures.cases c.if-contains.true k.no_zero

pub returns-then-contains-clause-fault : goal.returns-then-contains-clause-fault
returns-then-contains-clause-fault c = λ _. zero_fault c.args.line.now (with_it 0 (lit< tt) _ _ c.contains.ensures.cases c.if-contains.true)

pub returns-then-is_comment-clause-reads : goal.returns-then-is_comment-clause-reads
returns-then-is_comment-clause-reads c = λ _. comment_read c.args.line.now c.skip_blanks-text.result.now c.skip_blanks-text.ensures (c.is_comment.ensures.0 c.if-is_comment.true)

pub returns-then-is_comment-clause-fault : goal.returns-then-is_comment-clause-fault
returns-then-is_comment-clause-fault c = λ _. comment_fault c.args.line.now c.skip_blanks-text.result.now c.skip_blanks-text.ensures (c.is_comment.ensures.0 c.if-is_comment.true)

pub returns-in_err-marker-clause-reads : goal.returns-in_err-marker-clause-reads
returns-in_err-marker-clause-reads c = let p = err_from_is_err_and c.from_residual.result c.from_residual.ensures.1 in
    rw (p.1, p.2) (λ _. no_marker_read c.args.line.now c.skip_blanks-text.result.now c.skip_blanks-text.ensures c.in_err-marker.ensures.1)

pub returns-in_err-marker-clause-fault : goal.returns-in_err-marker-clause-fault
returns-in_err-marker-clause-fault c = let p = err_from_is_err_and c.from_residual.result c.from_residual.ensures.1 in
    rw (p.1, p.2, c.in_err-marker.ensures.0) (λ _. text_fault c.args.line.now c.skip_blanks-text.result.now c.skip_blanks-text.ensures (without_it 0 (lit< tt) _ _ c.contains.ensures.cases c.if-contains.false) (λ here. cc (sym c.if-is_comment.false ∙ c.is_comment.ensures.1 here)) _ (marker_fault _ c.in_err-marker.ensures.1))

pub returns-in_err-host_patterns-clause-reads : goal.returns-in_err-host_patterns-clause-reads
returns-in_err-host_patterns-clause-reads c = let p = err_from_is_err_and c.from_residual-in_err-host_patterns.result c.from_residual-in_err-host_patterns.ensures.1 in
    rw (p.1, p.2) (bad_hosts c.args.line.now c.skip_blanks-text.result.now c.skip_blanks-text.ensures (without_it 0 (lit< tt) _ _ c.contains.ensures.cases c.if-contains.false) (λ here. cc (sym c.if-is_comment.false ∙ c.is_comment.ensures.1 here)) (option_map marker_of c.in_ok-marker.marker) c.in_ok-marker.unmarked.now c.split_blank.result.0.now c.split_blank.result.1.now _ c.in_ok-marker.ensures c.split_blank.ensures refl _ c.in_err-host_patterns.ensures.reads)

pub returns-in_err-host_patterns-clause-fault : goal.returns-in_err-host_patterns-clause-fault
returns-in_err-host_patterns-clause-fault c = let p = err_from_is_err_and c.from_residual-in_err-host_patterns.result c.from_residual-in_err-host_patterns.ensures.1 in
    rw (p.1, p.2) (λ other. text_fault c.args.line.now c.skip_blanks-text.result.now c.skip_blanks-text.ensures (without_it 0 (lit< tt) _ _ c.contains.ensures.cases c.if-contains.false) (λ here. cc (sym c.if-is_comment.false ∙ c.is_comment.ensures.1 here)) _ (hosts_fault c.skip_blanks-text.result.now (option_map marker_of c.in_ok-marker.marker) c.in_ok-marker.unmarked.now c.split_blank.result.0.now c.split_blank.result.1.now _ c.in_ok-marker.ensures c.split_blank.ensures refl _ c.in_err-host_patterns.ensures.fault c.in_err-host_patterns.ensures.reads other))

pub returns-in_err-public_key-clause-reads : goal.returns-in_err-public_key-clause-reads
returns-in_err-public_key-clause-reads c = let p = err_from_is_err_and c.from_residual-in_err-public_key.result c.from_residual-in_err-public_key.ensures.1 in
    rw (p.1, p.2) (bad_host_key c.args.line.now c.skip_blanks-text.result.now c.skip_blanks-text.ensures (without_it 0 (lit< tt) _ _ c.contains.ensures.cases c.if-contains.false) (λ here. cc (sym c.if-is_comment.false ∙ c.is_comment.ensures.1 here)) (option_map marker_of c.in_ok-marker.marker) c.in_ok-marker.unmarked.now c.split_blank.result.0.now c.split_blank.result.1.now c.skip_blanks.result.now c.in_ok-marker.ensures c.split_blank.ensures c.skip_blanks.ensures _ c.in_err-public_key.ensures.reads)

pub returns-in_err-public_key-clause-fault : goal.returns-in_err-public_key-clause-fault
returns-in_err-public_key-clause-fault c = let p = err_from_is_err_and c.from_residual-in_err-public_key.result c.from_residual-in_err-public_key.ensures.1 in
    rw (p.1, p.2) (λ other. text_fault c.args.line.now c.skip_blanks-text.result.now c.skip_blanks-text.ensures (without_it 0 (lit< tt) _ _ c.contains.ensures.cases c.if-contains.false) (λ here. cc (sym c.if-is_comment.false ∙ c.is_comment.ensures.1 here)) _ (key_fault c.skip_blanks-text.result.now (option_map marker_of c.in_ok-marker.marker) c.in_ok-marker.unmarked.now c.split_blank.result.0.now c.split_blank.result.1.now c.skip_blanks.result.now c.in_ok-marker.ensures c.split_blank.ensures c.skip_blanks.ensures _ (hosts_of c.in_ok-host_patterns.host_patterns) c.in_ok-host_patterns.ensures.reads (c.in_err-public_key.ensures.fault other)))

pub returns-clause-reads : goal.returns-clause-reads
returns-clause-reads c = line_read c.args.line.now c.skip_blanks-text.result.now c.skip_blanks-text.ensures (without_it 0 (lit< tt) _ _ c.contains.ensures.cases c.if-contains.false) (λ here. cc (sym c.if-is_comment.false ∙ c.is_comment.ensures.1 here)) (option_map marker_of c.in_ok-marker.marker) c.in_ok-marker.unmarked.now c.split_blank.result.0.now c.split_blank.result.1.now c.skip_blanks.result.now c.in_ok-marker.ensures c.split_blank.ensures c.skip_blanks.ensures _ refl c.in_ok-host_patterns.ensures.reads c.in_ok-public_key.ensures.reads

pub returns-in_err-host_patterns-clause-asks : goal.returns-in_err-host_patterns-clause-asks
returns-in_err-host_patterns-clause-asks c = let p = err_from_is_err_and c.from_residual-in_err-host_patterns.result c.from_residual-in_err-host_patterns.ensures.1 in
    rw (p.1, p.2) (λ memory. line_needs c.args.line.now c.skip_blanks-text.result.now c.skip_blanks-text.ensures (without_it 0 (lit< tt) _ _ c.contains.ensures.cases c.if-contains.false) (λ here. cc (sym c.if-is_comment.false ∙ c.is_comment.ensures.1 here)) (option_map marker_of c.in_ok-marker.marker) c.in_ok-marker.unmarked.now c.split_blank.result.0.now c.split_blank.result.1.now _ c.in_ok-marker.ensures c.split_blank.ensures refl
    (refused_parts c.split_blank.result.0.now _ c.in_err-host_patterns.ensures.fault memory))

pub returns-in_err-public_key-clause-asks : goal.returns-in_err-public_key-clause-asks
returns-in_err-public_key-clause-asks c = let p = err_from_is_err_and c.from_residual-in_err-public_key.result c.from_residual-in_err-public_key.ensures.1 in
    rw (p.1, p.2) (λ memory. line_needs c.args.line.now c.skip_blanks-text.result.now c.skip_blanks-text.ensures (without_it 0 (lit< tt) _ _ c.contains.ensures.cases c.if-contains.false) (λ here. cc (sym c.if-is_comment.false ∙ c.is_comment.ensures.1 here)) (option_map marker_of c.in_ok-marker.marker) c.in_ok-marker.unmarked.now c.split_blank.result.0.now c.split_blank.result.1.now c.skip_blanks.result.now c.in_ok-marker.ensures c.split_blank.ensures c.skip_blanks.ensures
    (have_parts c.split_blank.result.0.now (hosts_of c.in_ok-host_patterns.host_patterns) c.in_ok-host_patterns.ensures.reads))
