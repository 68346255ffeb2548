use Rattle.std.proofs.Common.{◌≡◌, ◌++◌, length}
use denote.Shadow.{shadow}
use denote.Text.{Utf8}
use Rattle.sshkey_entries.specs.Items.{patterns}
use Rattle.sshkey_known_hosts.proofs.host_patterns.patterns_of.Given as goal

-- what was found, and what is left
abbrev pub invariant-patterns : goal.invariant-patterns
invariant-patterns l = record {
  so_far : patterns l.text ≡ l.found.items ++ patterns l.rest;
  text : shadow (Utf8 l.rest);
}

abbrev pub decreases-patterns : goal.decreases-patterns
decreases-patterns l = length (patterns l.rest)
