use Rattle.std.proofs.Common.{rules, refl, sym, true≢false, ◌∙◌}
use Rattle.std.proofs.lemmas.Result.{err_from_is_err_and}
use Rattle.sshkey_examples.proofs.Room.{had_room, has_room, says_length, wrote_all}
use Rattle.sshkey_examples.proofs.normal_blob.is_normal_blob.Goals as goal

-- with room for all of it nothing is refused
pub returns-in_err-encode-clause-room : goal.returns-in_err-encode-clause-room
returns-in_err-encode-clause-room c =
    let p = err_from_is_err_and c.from_residual.result c.from_residual.ensures.1 in
    rw p.1 (λ ok. absurd (true≢false (sym ok)), λ fits. absurd (has_room _ _ _ _ _ _ c.new-writer.ensures.empty c.in_err-encode.ensures fits.0 fits.1))

pub returns-in_err-encode-clause-refused : goal.returns-in_err-encode-clause-refused
returns-in_err-encode-clause-refused c =
    let p = err_from_is_err_and c.from_residual.result c.from_residual.ensures.1 in
    rw (p.1, p.2) (says_length _ _ _ _ c.in_err-encode.ensures)

pub returns-clause-room : goal.returns-clause-room
returns-clause-room c = (λ ok. (c.in_ok-encode.ensures.0.boxes, had_room _ _ _ c.encode.new.writer c.new-writer.ensures.empty c.in_ok-encode.ensures), λ fits. refl)

-- what was written is the normal form, and was compared
pub returns-clause-same : goal.returns-clause-same
returns-clause-same c =
    let all = wrote_all _ _ _ _ c.new-writer.ensures.empty c.in_ok-encode.ensures in
    let shown = c.written.ensures ∙ all in
    rw (← shown) (search rules)
