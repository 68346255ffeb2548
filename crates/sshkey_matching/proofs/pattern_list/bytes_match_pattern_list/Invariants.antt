use Rattle.std.proofs.Common.{◌↔◌, length}
use Rattle.sshkey_matching.specs.Patterns.{patterns, MatchesList, fold_of}
use Rattle.sshkey_matching.proofs.PatternLists.{StillListed}
use Rattle.sshkey_matching.proofs.pattern_list.bytes_match_pattern_list.Given as goal

-- what was found, and what is left
abbrev pub invariant-patterns : goal.invariant-patterns
invariant-patterns l = MatchesList (fold_of l.letter_case) l.list l.text ↔ StillListed (fold_of l.letter_case) l.is_named l.text (patterns l.rest)

abbrev pub decreases-patterns : goal.decreases-patterns
decreases-patterns l = length (patterns l.rest)
