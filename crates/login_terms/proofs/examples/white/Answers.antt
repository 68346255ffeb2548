use Rattle.std.proofs.Common.{arith, inl, inr, refl}
use Rattle.login_terms.proofs.ExampleLemmas.{few_digits, never}
use Rattle.login_terms.proofs.examples.white.Goals as goal

pub returns : goal.returns
returns c = (
  ((λ s is. few_digits 4 (omega arith) is.form.size), inr refl),
  ((λ s is. few_digits 4 (omega arith) is.form.size), inr refl),
  ((λ s is. few_digits 4 (omega arith) is.form.size), inr refl),
  ((λ s is. few_digits 4 (omega arith) is.form.size), inr refl),
  ((λ s is. few_digits 4 (omega arith) is.form.size), inr refl),
  ((λ s is. few_digits 4 (omega arith) is.form.size), inr refl),
  λ m. elim m.1 [ inl form ↦ few_digits 4 (omega arith) form.size | inr white ↦ never white ],
  λ m. elim m.1 [ inl form ↦ few_digits 4 (omega arith) form.size | inr white ↦ never white ],
  λ m. elim m.1 [ inl form ↦ few_digits 4 (omega arith) form.size | inr white ↦ never white ],
  λ m. elim m.1 [ inl form ↦ omega (arith, form.valid.month) | inr white ↦ never white ],
  λ m. elim m.1 [ inl form ↦ few_digits 4 (omega arith) form.size | inr white ↦ never white ],
  λ m. elim m.1 [ inl form ↦ few_digits 0 (omega arith) form.size | inr white ↦ never white ],
)
