use Rattle.std.proofs.Common.{[], ◌∷◌, ◌++◌, codes, inr, refl, subst, arith}
use Rattle.sshkey_model.specs.Lines.{IsWithout}
use Rattle.sshkey_matching.specs.Patterns.{patterns}
use Rattle.allowed_signers.proofs.ExampleLemmas.{field, its_principals, nobody}
use Rattle.allowed_signers.proofs.examples.lines.Goals as goal

pub returns : goal.returns
unfolding patterns
returns c = λ namespace time key. (
  λ a. a.no_zero 9 (omega arith) refl,
  nobody (codes "carol") (codes "alice,bob") (codes " KEY") (field (codes "alice,bob") refl) (inr refl) (λ e. omega (arith, e)) refl namespace time key,
  nobody (codes "Alice") (codes "alice") (codes " KEY") (field (codes "alice") refl) (inr refl) (λ e. omega (arith, e)) refl namespace time key,
  nobody (codes "alice") (codes "*,!alice") (codes " KEY") (field (codes "*,!alice") refl) (inr refl) (λ e. omega (arith, e)) refl namespace time key,
  λ a. subst (IsWithout 13) (its_principals (codes "alice" ++ (13 ∷ codes " KEY")) (codes "alice" ++ (13 ∷ [])) (codes " KEY") refl (field (codes "alice" ++ (13 ∷ [])) refl) (inr refl) (λ e. omega (arith, e)) a.principals a.rest a.front) a.front.no_return 5 (omega arith) refl,
)
