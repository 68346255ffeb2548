use Rattle.std.proofs.Common.{ℕ, List, ◌<◌, get_or}
use Rattle.std.specs.Char.{to_ascii_lowercase}
use Rattle.sshkey_entries.specs.Patterns.{MatchesUnnegated}
use Rattle.sshkey_known_hosts.proofs.host_name.some_names.Given as goal

-- none of the patterns so far does
abbrev pub invariant-loop-pattern : goal.invariant-loop-pattern
invariant-loop-pattern l = (k : ℕ) (d : List ℕ) → k < l.pattern-index → MatchesUnnegated to_ascii_lowercase l.name (get_or l.patterns k d) → ⊥
