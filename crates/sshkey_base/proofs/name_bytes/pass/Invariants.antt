use Rattle.std.proofs.Common.{◌-◌, ◌≤◌}
use Rattle.sshkey_base.proofs.NameStrings.{Passed}
use Rattle.sshkey_base.proofs.name_bytes.pass.Given as goal

abbrev pub invariant-passes : goal.invariant-passes
invariant-passes g l = (l.rest ≤ l.fn.len) × Passed (l.fn.len - l.rest) (g.R.Reader.source l.fn.reader) (g.R.Reader.source l.reader)

abbrev pub decreases-passes : goal.decreases-passes
decreases-passes g l = l.rest
