use Rattle.std.proofs.Common.{[], refl, arith}
use Rattle.sshkey_entries.specs.Fields.{without_front}
use Rattle.allowed_signers.proofs.examples.orders.Goals as goal

pub returns : goal.returns
unfolding without_front
returns c = (
  omega arith,
  λ h. omega (arith, h),
  λ h. omega (arith, h),
  tt,
  tt,
  record { say = ([], refl, refl); no_comma = λ e. omega (arith, e); in_order = tt },
)
