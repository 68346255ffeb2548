use Rattle.std.proofs.Common.{Some, arith, inl, inr, refl}
use Rattle.std.specs.Prelude.{codes}
use Rattle.login_terms.specs.declared.words.Word.TheVariants as word
use Rattle.login_terms.proofs.ExampleLemmas.{adds, unlike}
use Rattle.login_terms.proofs.examples.devices.Goals as goal

pub returns : goal.returns
returns c = (
  inr ((λ e. unlike _ _ e refl), ((omega arith, (omega arith, tt)), refl), omega arith),
  inr ((λ e. unlike _ _ e refl), ((omega arith, (omega arith, (omega arith, (omega arith, (omega arith, (omega arith, (omega arith, (omega arith, (omega arith, (omega arith, (omega arith, tt))))))))))), refl), omega arith),
  inl (refl, refl),
  λ is. elim is [ inl any ↦ unlike _ _ any.0 refl | inr number ↦ omega (arith, number.2) ],
  λ is. elim is [ inl any ↦ unlike _ _ any.0 refl | inr number ↦ omega (arith, number.2) ],
  ((λ e. unlike _ _ e refl), (λ n is less. omega (arith, is.0.0))),
  ((λ e. unlike _ _ e refl), (λ n is less. omega (arith, is.0.1.0))),
  ((λ e. unlike _ _ e refl), (λ n is less. omega (arith, is.0.1.1.0))),
  λ m. m.0 refl,
  λ m. m.1 2147483646 ((omega arith, (omega arith, (omega arith, (omega arith, (omega arith, (omega arith, (omega arith, (omega arith, (omega arith, (omega arith, (omega arith, tt))))))))))), refl) (omega arith),
  adds (codes "tunnel") (Some (codes "1")) _ word.Tunnel _ refl (1, inr ((λ e. unlike _ _ e refl), ((omega arith, (omega arith, tt)), refl), omega arith), refl),
)
