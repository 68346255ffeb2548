use Rattle.std.proofs.Common.{inl, inr, refl}
use Rattle.host_keys.proofs.examples.reasons.Goals as goal

pub returns : goal.returns
returns c = (
  inl refl,
  λ w. cc w.0,
  inr refl,
  (refl, refl),
  (refl, refl),
  (refl, refl),
  λ w. cc w.1,
  (refl, refl, refl),
  λ w. cc w.2,
  λ w. cc w.2,
  (refl, refl, refl, tt),
  λ w. w,
)
