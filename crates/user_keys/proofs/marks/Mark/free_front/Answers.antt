use Rattle.user_keys.proofs.Spellings.{free_all, free_before}
use Rattle.user_keys.proofs.marks.Mark.free_front.Goals as goal

pub returns-in-Some-clause-free : goal.returns-in-Some-clause-free
returns-in-Some-clause-free c = free_before c.args.self.now.symbols c.args.text.now c.in-Some.place c.requires c.in-Some.ensures

pub returns-in-None-clause-free : goal.returns-in-None-clause-free
returns-in-None-clause-free c = free_all c.args.self.now.symbols c.args.text.now c.in-None.ensures
