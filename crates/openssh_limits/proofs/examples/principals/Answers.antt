use Rattle.std.proofs.Common.{arith, refl}
use Rattle.std.specs.Prelude.{[], codes}
use Rattle.sshkey_model.specs.Lines.{IsWithout}
use Rattle.openssh_limits.proofs.PlainTexts.{all_same, without}
use Rattle.openssh_limits.proofs.examples.principals.Goals as goal

pub returns : goal.returns
returns c = (
  record { few = omega arith; no_zero = all_same (IsWithout 0) (codes "root") ((without (codes "root")).0 refl) 0 },
  record { few = omega arith; no_zero = all_same (IsWithout 0) (codes "root") ((without (codes "root")).0 refl) 256 },
  λ many. omega (arith, many.few),
  λ zero_. cc ((without (codes "ro\0ot")).1 (zero_.no_zero 1 [] (omega arith))),
  λ zero_. cc ((without (codes "root\0")).1 (zero_.no_zero 0 [] (omega arith))),
)
