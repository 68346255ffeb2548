use Rattle.std.proofs.Common.{◌∙◌, sym}
use Rattle.std.specs.Str.Iter.{lines_rest}
use Rattle.sshkey_entries.proofs.TextLines.{fewer_lines, fewer_left, filled_taken, filled_skipped}
use Rattle.sshkey_entries.proofs.non_blank_lines.NonBlankLinesIterator.next.Goals as goal

pub returns-then-is_filled-clause-steps : goal.returns-then-is_filled-clause-steps
returns-then-is_filled-clause-steps c =
    let step = c.in-Some.ensures.steps.0 in
    sym c.lines.invariant ∙ filled_taken (lines_rest c.lines.self-inside.lines) _ (lines_rest c.next.new.self) _ step.0 step.2 c.skip_blanks-filled.ensures (sym c.is_filled.ensures ∙ c.if-is_filled.true)

pub returns-then-is_filled-clause-goes : goal.returns-then-is_filled-clause-goes
returns-then-is_filled-clause-goes c =
    let step = c.in-Some.ensures.steps.0 in
    fewer_left _ _ _ c.skip_blanks-filled.result.now
    (sym c.lines.invariant ∙ filled_taken (lines_rest c.lines.self-inside.lines) _ (lines_rest c.next.new.self) _ step.0 step.2 c.skip_blanks-filled.ensures (sym c.is_filled.ensures ∙ c.if-is_filled.true))

pub lines-smaller : goal.lines-smaller
lines-smaller c = let step = c.in-Some.ensures.steps.0 in fewer_lines (lines_rest c.lines.self-inside.lines) c.in-Some.line.now (lines_rest c.next.new.self) step.0 step.2

pub lines-preserved : goal.lines-preserved
lines-preserved c =
    let step = c.in-Some.ensures.steps.0 in
    sym (filled_skipped (lines_rest c.lines.self-inside.lines) _ (lines_rest c.next.new.self) _ step.0 step.2 c.skip_blanks-filled.ensures (sym c.is_filled.ensures ∙ c.if-is_filled.false)) ∙ c.lines.invariant
