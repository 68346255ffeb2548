use Rattle.std.proofs.Common.{sym, ◌∙◌}
use Rattle.callers.proofs.FirstTold.{found, none, passed}
use Rattle.callers.proofs.hashes.hash_among.Goals as goal

pub returns-then-is_of : goal.returns-then-is_of
returns-then-is_of c = found c.args.salt.now c.args.name.now c.args.hashes.now c.loop-hashed.hashed-index c.loop-hashed.invariant c.hashed-item.result c.loop-hashed-test.true (sym c.hashed-item.is) (sym c.is_of.ensures ∙ c.if-is_of.true)

pub loop-hashed-preserved : goal.loop-hashed-preserved
loop-hashed-preserved c = passed c.args.salt.now c.args.name.now c.args.hashes.now c.loop-hashed.hashed-index c.loop-hashed.invariant c.hashed-item.result c.loop-hashed-test.true (sym c.hashed-item.is) (sym c.is_of.ensures ∙ c.if-is_of.false)

pub returns : goal.returns
returns c = none c.args.salt.now c.args.name.now c.args.hashes.now c.loop-hashed.hashed-index c.loop-hashed.invariant c.loop-hashed-test.false
