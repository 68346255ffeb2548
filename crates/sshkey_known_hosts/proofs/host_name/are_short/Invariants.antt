use Rattle.std.proofs.Common.{ℕ, List, ◌<◌, get_or}
use Rattle.sshkey_entries.specs.Patterns.{IsShortPattern}
use Rattle.sshkey_known_hosts.proofs.host_name.are_short.Given as goal

-- the patterns so far are short
abbrev pub invariant-loop-pattern : goal.invariant-loop-pattern
invariant-loop-pattern l = (k : ℕ) (d : List ℕ) → k < l.pattern-index → IsShortPattern (get_or l.patterns k d)
