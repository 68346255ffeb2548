use Rattle.std.proofs.Common.{◌<◌, length, refl, rules, sym, ◌∙◌}
use Rattle.sshkey_entry_calls.proofs.CutLines.{filled_size, finds, left_first, left_next}
use Rattle.sshkey_c.proofs.entry.raf_next_line.Goals as goal

pub lines-init : goal.lines-init
lines-init c = (left_first _ _ _ c.rest_from-left.ensures, refl)

pub overflow_sub-answer-then-is_filled : goal.overflow_sub-answer-then-is_filled
overflow_sub-answer-then-is_filled c =
    let some : 0 < length c.lines.left.now = search rules in
    filled_size c.args.text.now c.lines.left.now _ _ _ c.args.place some c.lines.invariant.0 c.split_line.ensures c.skip_blanks-filled.ensures

pub returns-then-is_filled : goal.returns-then-is_filled
returns-then-is_filled c =
    let some : 0 < length c.lines.left.now = search rules in
    finds c.args.text.now c.lines.left.now _ _ _ c.args.place some c.lines.invariant.0 c.split_line.ensures c.skip_blanks-filled.ensures _ (sym c.is_filled.ensures ∙ c.if-is_filled.true)

pub lines-preserved : goal.lines-preserved
lines-preserved c =
    let some : 0 < length c.lines.left.now = search rules in
    (left_next c.args.text.now c.lines.left.now _ _ _ c.args.place some c.lines.invariant.0 c.split_line.ensures c.skip_blanks-filled.ensures (sym c.is_filled.ensures ∙ c.if-is_filled.false), c.lines.invariant.1)
