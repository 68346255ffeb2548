use Rattle.std.proofs.Common.{[], codes, refl, arith}
use Rattle.login_policy.specs.Examples.{option}
use Rattle.login_policy.specs.KnownOptions.{flags}
use Rattle.login_policy.proofs.ExampleLemmas.{not_among, zero_free}
use Rattle.login_policy.proofs.KnownOptions.{differ}
use Rattle.login_policy.proofs.examples.extensions.Goals as goal

pub returns : goal.returns
returns c = (
  record { no_zero = zero_free (codes "permit-X11-forwarding") refl; empty = λ flag. refl },
  λ p. differ (codes "x") [] refl (p.empty (0, omega arith, refl)),
  λ p. differ (codes "x") [] refl (p.empty (1, omega arith, refl)),
  λ p. differ (codes "x") [] refl (p.empty (2, omega arith, refl)),
  λ p. differ (codes "x") [] refl (p.empty (3, omega arith, refl)),
  λ p. differ (codes "x") [] refl (p.empty (4, omega arith, refl)),
  λ p. differ (codes "x") [] refl (p.empty (5, omega arith, refl)),
  record { no_zero = zero_free (codes "Permit-pty") refl; empty = λ flag. absurd (not_among (codes "Permit-pty") flags refl flag) },
  λ p. p.no_zero 10 (omega arith) refl,
  λ l. differ (codes "x") [] refl ((l.fields.plain 0 (option (codes "permit-pty") (codes "x")) (omega arith)).empty (3, omega arith, refl)),
)
