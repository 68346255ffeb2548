use Rattle.std.proofs.Common.{arith, sym}
use Rattle.std.proofs.lemmas.List.{length-take-le}
use Rattle.user_keys.proofs.SkippedLines.{counted_on}
use Rattle.user_keys.proofs.skip.count_feeds.Goals as goal

pub slice_bounds-count_few-end : goal.slice_bounds-count_few-end
slice_bounds-count_few-end c = sym (length-take-le 128 c.loop-rest.rest.now (omega (arith, c.loop-rest-test.true)))

pub count_few-requires : goal.count_few-requires
count_few-requires c = omega (arith, length-take-le 128 c.loop-rest.rest.now (omega (arith, c.loop-rest-test.true)))

pub loop-rest-preserved : goal.loop-rest-preserved
loop-rest-preserved c = counted_on c.args.text.now c.loop-rest.rest.now 128 c.loop-rest.count c.count_few.result c.count_few.ensures c.loop-rest.invariant
