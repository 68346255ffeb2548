use Rattle.std.proofs.Common.{codes, refl, sym, arith}
use Rattle.sshkey_matching.specs.Patterns.{patterns}
use Rattle.sshkey_matching.proofs.PatternTests.{decides_list}
use Rattle.allowed_signers.proofs.ExampleLemmas.{never}
use Rattle.allowed_signers.proofs.examples.permitted.Goals as goal

pub returns : goal.returns
unfolding patterns
returns c = (
  record { no_authority = refl; in_namespace = tt; not_before = tt; not_after = tt },
  λ p. never (sym p.no_authority),
  λ p. omega (arith, p.not_before),
  record { no_authority = refl; in_namespace = tt; not_before = omega arith; not_after = omega arith },
  record { no_authority = refl; in_namespace = tt; not_before = omega arith; not_after = omega arith },
  λ p. omega (arith, p.not_after),
  record { no_authority = refl; in_namespace = (decides_list (λ c. c) (codes "git,file") (codes "file")).0 refl; not_before = tt; not_after = tt },
  λ p. never ((decides_list (λ c. c) (codes "git") (codes "file")).1 p.in_namespace),
  λ p. never ((decides_list (λ c. c) (codes "file") (codes "File")).1 p.in_namespace),
  λ p. never ((decides_list (λ c. c) (codes "*,!file") (codes "file")).1 p.in_namespace),
)
