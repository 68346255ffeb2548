use Rattle.std.proofs.Common.{arith}
use Rattle.user_keys.proofs.Spellings.{start_none, start_some}
use Rattle.user_keys.proofs.marks.Marks.next_place.Goals as goal

pub returns-in-Some : goal.returns-in-Some
returns-in-Some c = start_some c.args.self.now (omega (arith, c.type_inv.self)) (omega (arith, c.type_inv.self)) (omega (arith, c.type_inv.self)) c.args.text.now c.args.from c.in-Some.step c.in-Some.ensures

pub returns-in-None : goal.returns-in-None
returns-in-None c = start_none c.args.self.now (omega (arith, c.type_inv.self)) (omega (arith, c.type_inv.self)) (omega (arith, c.type_inv.self)) c.args.text.now c.args.from c.in-None.ensures
