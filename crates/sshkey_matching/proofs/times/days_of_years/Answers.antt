use Rattle.std.proofs.Common.{arith, sym, ap, ◌∙◌}
use Rattle.sshkey_matching.specs.Times.{days_of_years}
use Rattle.sshkey_matching.proofs.Calendar.{no_years, years}
use Rattle.sshkey_matching.proofs.times.days_of_years.Goals as goal

pub returns-then-count-eq0-clause-value : goal.returns-then-count-eq0-clause-value
returns-then-count-eq0-clause-value c = sym (ap days_of_years c.if-count-eq0.true ∙ no_years)

pub returns-clause-value : goal.returns-clause-value
returns-clause-value c = sym (years c.args.count (omega arith))
