use Rattle.std.proofs.Common.{arith, sym}
use Rattle.sshkey_matching.proofs.Calendar.{no_months, one_month}
use Rattle.sshkey_matching.proofs.times.days_of_months.Goals as goal

pub loop-month-init : goal.loop-month-init
loop-month-init c = record { counted = sym (no_months c.args.year); short = omega arith }

pub loop-month-preserved : goal.loop-month-preserved
loop-month-preserved c = record {
  counted = omega (arith, c.loop-month.invariant.counted, c.month_days-days.ensures.value, one_month c.args.year c.loop-month.month);
  short = omega (arith, c.loop-month.invariant.short, c.month_days-days.ensures.short);
}
