use Rattle.std.proofs.Common.{◌↔◌, length}
use Rattle.sshkey_matching.specs.Patterns.{Matches, fold_of, IsStuck}
use Rattle.sshkey_matching.proofs.pattern.is_match.Given as goal

-- what is left matches exactly if all does
abbrev pub invariant-stars : goal.invariant-stars
invariant-stars l = record {
  same : Matches (fold_of l.letter_case) l.pattern l.text ↔ Matches (fold_of l.letter_case) l.rest l.left;
  stuck : IsStuck (fold_of l.letter_case) l.rest l.left;
}

abbrev pub decreases-stars : goal.decreases-stars
decreases-stars l = length l.rest
