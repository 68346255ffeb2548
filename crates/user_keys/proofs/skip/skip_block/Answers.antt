use Rattle.user_keys.proofs.SkippedLines.{skipped_block}
use Rattle.user_keys.proofs.skip.skip_block.Goals as goal

pub returns-in-Some-clause-skips : goal.returns-in-Some-clause-skips
returns-in-Some-clause-skips c = skipped_block c.args.marks.now c.args.text.now c.min.result c.unmarked_front.result c.in-Some.end c.count_feeds-count.result c.unmarked_front.ensures.bound c.unmarked_front.ensures.unmarked c.in-Some.ensures c.count_feeds-count.ensures
