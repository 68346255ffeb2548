use Rattle.user_keys.proofs.SkippedLines.{skipped_on}
use Rattle.user_keys.proofs.skip.skip_lines.Goals as goal

pub loop-lines-preserved : goal.loop-lines-preserved
loop-lines-preserved c = skipped_on c.args.marks.now c.args.text.now c.loop-lines.rest.now c.in-Some.after.now c.loop-lines.count c.in-Some.lines c.loop-lines.invariant c.in-Some.ensures.skips
