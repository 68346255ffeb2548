use Rattle.user_keys.proofs.Spellings.{all_free}
use Rattle.user_keys.proofs.marks.Marks.unmarked_front.Goals as goal

pub returns-clause-unmarked : goal.returns-clause-unmarked
returns-clause-unmarked c = all_free c.args.self.now c.args.text.now c.unspaced_front-unspaced.result c.free_front-first.result c.free_front-second.result c.free_front.result c.unspaced_front-unspaced.ensures.bound c.free_front-first.ensures.bound c.free_front-second.ensures.bound c.free_front.ensures.bound c.unspaced_front-unspaced.ensures.unspaced c.free_front-first.ensures.free c.free_front-second.ensures.free c.free_front.ensures.free
