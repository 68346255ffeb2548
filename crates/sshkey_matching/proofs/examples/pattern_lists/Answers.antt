use Rattle.std.proofs.Common.{refl}
use Rattle.std.specs.Char.{to_ascii_lowercase}
use Rattle.std.specs.Prelude.{codes}
use Rattle.std.proofs.lemmas.Bool.Decides.{not_from_Decides}
use Rattle.sshkey_matching.specs.Patterns.{patterns, MatchesList}
use Rattle.sshkey_matching.specs.PatternExamples.{listed, unlisted}
use Rattle.sshkey_matching.proofs.PatternTests.{matches_list, decides_list, each_row, no_row}
use Rattle.sshkey_matching.proofs.examples.pattern_lists.Goals as goal

pub returns : goal.returns
unfolding patterns
returns c = (each_row (matches_list (λ c. c)) (MatchesList (λ c. c)) (decides_list (λ c. c)) listed refl, no_row (matches_list (λ c. c)) (MatchesList (λ c. c)) (decides_list (λ c. c)) unlisted refl, not_from_Decides _ (decides_list to_ascii_lowercase (codes "!EVIL,*") (codes "evil")) refl)
