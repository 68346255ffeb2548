use Rattle.std.proofs.Common.{◌∙◌, sym}
use Rattle.std.specs.Str.Iter.{lines_rest}
use Rattle.sshkey_entries.proofs.TextLines.{line_taken, line_skipped, fewer_lines, fewer_left}
use Rattle.sshkey_entries.proofs.entry_lines.EntryLinesIterator.next.Goals as goal

pub returns-then-not-is_empty-clause-steps : goal.returns-then-not-is_empty-clause-steps
returns-then-not-is_empty-clause-steps c =
    let step = c.in-Some.ensures.steps.0 in
    (c.in-Some.line.now, sym c.lines.invariant ∙ line_taken (lines_rest c.lines.self-inside.lines) _ (lines_rest c.next.new.self) _ step.0 step.2 c.split_entry.ensures.0 _ c.is_empty.ensures c.if-not-is_empty.true, c.split_entry.ensures)

pub returns-then-not-is_empty-clause-goes : goal.returns-then-not-is_empty-clause-goes
returns-then-not-is_empty-clause-goes c =
    let step = c.in-Some.ensures.steps.0 in
    fewer_left _ _ _ c.in-Some.line.now
    (sym c.lines.invariant ∙ line_taken (lines_rest c.lines.self-inside.lines) _ (lines_rest c.next.new.self) _ step.0 step.2 c.split_entry.ensures.0 _ c.is_empty.ensures c.if-not-is_empty.true)

pub lines-smaller : goal.lines-smaller
lines-smaller c = let step = c.in-Some.ensures.steps.0 in fewer_lines (lines_rest c.lines.self-inside.lines) c.in-Some.line.now (lines_rest c.next.new.self) step.0 step.2

pub lines-preserved : goal.lines-preserved
lines-preserved c =
    let step = c.in-Some.ensures.steps.0 in
    sym (line_skipped (lines_rest c.lines.self-inside.lines) _ (lines_rest c.next.new.self) _ step.0 step.2 c.split_entry.ensures.0 _ c.is_empty.ensures c.if-not-is_empty.false) ∙ c.lines.invariant
