use Rattle.std.proofs.Common.{refl}
use Rattle.std.specs.Char.{to_ascii_lowercase}
use Rattle.sshkey_matching.specs.PatternExamples.{cases, others}
use Rattle.sshkey_matching.specs.Patterns.{Matches}
use Rattle.sshkey_matching.proofs.PatternTests.{matches, decides_match, each_row, no_row}
use Rattle.sshkey_matching.proofs.examples.letters.Goals as goal

pub returns : goal.returns
returns c = (each_row (matches to_ascii_lowercase) (Matches to_ascii_lowercase) (decides_match to_ascii_lowercase) cases refl, no_row (matches (λ c. c)) (Matches (λ c. c)) (decides_match (λ c. c)) cases refl, no_row (matches to_ascii_lowercase) (Matches to_ascii_lowercase) (decides_match to_ascii_lowercase) others refl)
