use Rattle.std.proofs.Common.{◌≡◌, ◌≤◌, ◌*◌}
use Rattle.sshkey_matching.specs.Times.{days_of_months}
use Rattle.sshkey_matching.proofs.times.days_of_months.Given as goal

-- the days of the months so far
abbrev pub invariant-loop-month : goal.invariant-loop-month
invariant-loop-month l = record {
  counted : l.days ≡ days_of_months l.year l.month;
  short : l.days ≤ 31 * l.month;
}
