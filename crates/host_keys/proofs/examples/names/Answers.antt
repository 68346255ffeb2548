use Rattle.std.proofs.Common.{inl, inr, refl, arith}
use Rattle.std.specs.Fmt.{digits}
use Rattle.host_keys.proofs.examples.names.Goals as goal

pub returns : goal.returns
unfolding digits
returns c = (
  inl ((λ e. cc e), refl),
  λ s. elim s [ inl a ↦ cc a.1 | inr b ↦ cc b.0 ],
  inl ((λ e. cc e), refl),
  λ s. elim s [ inl a ↦ cc a.1 | inr b ↦ cc b.0 ],
  inr (refl, refl),
  inr (refl, refl),
  inr (refl, refl),
  λ s. elim s [ inl a ↦ a.0 refl | inr b ↦ cc b.1 ],
  inl ((λ e. cc e), refl),
  refl,
  inl refl,
  inr (λ e. cc e),
  λ s. elim s [ inl e ↦ omega (arith, e) | inr other ↦ other refl ],
)
