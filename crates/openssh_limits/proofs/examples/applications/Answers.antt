use Rattle.std.proofs.Common.{refl}
use Rattle.std.specs.Prelude.{[], codes}
use Rattle.openssh_limits.proofs.PlainTexts.{without}
use Rattle.openssh_limits.proofs.examples.applications.Goals as goal

pub returns : goal.returns
returns c = (
  (without (codes "ssh:")).0 refl,
  (without (codes "ssh:")).0 refl,
  (without []).0 refl,
  tt,
  λ is. cc ((without (codes "ssh:\0")).1 is),
  λ is. cc ((without (codes "ssh:\0")).1 is),
  λ is. cc ((without (codes "\0")).1 is),
)
