use Rattle.std.proofs.Common.{length}
use Rattle.sshkey_entries.specs.Items.{patterns}
use Rattle.sshkey_known_hosts.proofs.HeldNames.{AreRead}
use Rattle.sshkey_known_hosts.proofs.held.names_of_patterns.Given as goal

-- the names of the patterns that were read, and those that are left
abbrev pub invariant-patterns : goal.invariant-patterns
invariant-patterns l = AreRead l.text l.names l.rest

abbrev pub decreases-patterns : goal.decreases-patterns
decreases-patterns l = length (patterns l.rest)
