use Rattle.std.proofs.Common.{None, Some}
use Rattle.sshkey_entries.proofs.OptionItems.{is_after, is_found, is_none_left, not_so}
use Rattle.sshkey_entries.proofs.words.find_word.Goals as goal

pub returns-then-is_same : goal.returns-then-is_same
returns-then-is_same g c = c.loop-row.invariant (Some _) (is_found c.args.table.now c.loop-row.row-index c.args.name.now c.row-item.result c.loop-row-test.true c.row-item.is (c.is_same.ensures.0 c.if-is_same.true))

pub loop-row-preserved : goal.loop-row-preserved
loop-row-preserved g c r found = c.loop-row.invariant r (is_after c.args.table.now c.loop-row.row-index c.args.name.now c.row-item.result c.loop-row-test.true c.row-item.is r (not_so _ _ c.is_same.ensures c.if-is_same.false) found)

pub returns : goal.returns
returns g c = c.loop-row.invariant None (is_none_left c.args.table.now c.loop-row.row-index c.args.name.now c.loop-row-test.false)
