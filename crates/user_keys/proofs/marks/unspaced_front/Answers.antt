use Rattle.user_keys.proofs.Spellings.{unspaced_all, unspaced_before, unspaced_whole}
use Rattle.user_keys.proofs.marks.unspaced_front.Goals as goal

pub returns-then-is_unspaced-clause-unspaced : goal.returns-then-is_unspaced-clause-unspaced
returns-then-is_unspaced-clause-unspaced c = unspaced_whole c.args.text.now (c.is_unspaced.ensures.0 c.if-is_unspaced.true)

pub returns-in-Some-clause-unspaced : goal.returns-in-Some-clause-unspaced
returns-in-Some-clause-unspaced c = unspaced_before c.args.text.now c.in-Some.place c.in-Some.ensures

pub returns-in-None-clause-unspaced : goal.returns-in-None-clause-unspaced
returns-in-None-clause-unspaced c = unspaced_all c.args.text.now c.in-None.ensures
