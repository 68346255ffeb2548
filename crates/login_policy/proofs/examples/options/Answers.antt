use Rattle.std.proofs.Common.{[], codes, refl, arith}
use Rattle.login_policy.specs.Examples.{option}
use Rattle.login_policy.specs.KnownOptions.{Addresses, Command, Verification}
use Rattle.login_policy.proofs.ExampleLemmas.{zero_free}
use Rattle.login_policy.proofs.KnownOptions.{differ}
use Rattle.login_policy.proofs.examples.options.Goals as goal

pub returns : goal.returns
returns c = (
  Command refl (record { some = λ e. cc; no_zero = zero_free (codes "ls") refl }),
  λ k. elim k [
    | Command same given ↦ given.some refl
    | Addresses same given ↦ differ (codes "force-command") (codes "source-address") refl same
    | Verification same none ↦ differ (codes "force-command") (codes "verify-required") refl same
  ],
  λ k. elim k [
    | Command same given ↦ given.no_zero 1 (omega arith) refl
    | Addresses same given ↦ differ (codes "force-command") (codes "source-address") refl same
    | Verification same none ↦ differ (codes "force-command") (codes "verify-required") refl same
  ],
  λ k. elim k [
    | Command same given ↦ differ (codes "Force-command") (codes "force-command") refl same
    | Addresses same given ↦ differ (codes "Force-command") (codes "source-address") refl same
    | Verification same none ↦ differ (codes "Force-command") (codes "verify-required") refl same
  ],
  Verification refl refl,
  λ k. elim k [
    | Command same given ↦ differ (codes "verify-required") (codes "force-command") refl same
    | Addresses same given ↦ differ (codes "verify-required") (codes "source-address") refl same
    | Verification same none ↦ differ (codes "x") [] refl none
  ],
  λ k. elim k [
    | Command same given ↦ differ (codes "permit-pty") (codes "force-command") refl same
    | Addresses same given ↦ differ (codes "permit-pty") (codes "source-address") refl same
    | Verification same none ↦ differ (codes "permit-pty") (codes "verify-required") refl same
  ],
  λ l. elim (l.fields.known 0 (option (codes "permit-pty") []) (omega arith)) [
    | Command same given ↦ differ (codes "permit-pty") (codes "force-command") refl same
    | Addresses same given ↦ differ (codes "permit-pty") (codes "source-address") refl same
    | Verification same none ↦ differ (codes "permit-pty") (codes "verify-required") refl same
  ],
)
