use Rattle.std.proofs.Common.{refl}
use Rattle.sshkey_matching.specs.PatternExamples.{matched, unmatched}
use Rattle.sshkey_matching.specs.Patterns.{Matches}
use Rattle.sshkey_matching.proofs.PatternTests.{matches, decides_match, each_row, no_row}
use Rattle.sshkey_matching.proofs.examples.patterns.Goals as goal

pub returns : goal.returns
returns c = (each_row (matches (λ c. c)) (Matches (λ c. c)) (decides_match (λ c. c)) matched refl, no_row (matches (λ c. c)) (Matches (λ c. c)) (decides_match (λ c. c)) unmatched refl)
