use Rattle.std.proofs.Common.{◌∙◌, ◌∷◌, ◌++◌, ap, arith, codes, inl, inr, refl}
use Rattle.std.specs.Prelude.{replicate}
use Rattle.login_terms.specs.Values.{closing_bracket, colon, opening_bracket}
use Rattle.login_terms.proofs.ExampleLemmas.{unlike, without}
use Rattle.login_terms.proofs.examples.split_hosts.Goals as goal

pub returns : goal.returns
returns c = (
  inl (codes "::1]:80", refl, record { is = refl; one_host = without closing_bracket (codes "::1") refl }, omega arith),
  inr ((λ inside e. unlike _ _ e refl), record { is = refl; one_host = without colon (codes "h") refl }, omega arith),
  (λ is. elim is [
    | inl inside ↦ unlike (codes "[::1]:80") (codes "[[]::1]:80") (inside.1 ∙ ap (λ l. opening_bracket ∷ l) inside.2.is) refl
    | inr plain ↦ plain.0 (codes "::1]:80") refl
  ]),
  (λ is. elim is [
    | inl inside ↦ unlike _ _ inside.1 refl
    | inr plain ↦ plain.1.one_host 0 (omega arith) refl
  ]),
  (λ is. elim is [
    | inl inside ↦ unlike (codes "[a:80") (codes "[[a]:80") (inside.1 ∙ ap (λ l. opening_bracket ∷ l) inside.2.is) refl
    | inr plain ↦ plain.0 (codes "a:80") refl
  ]),
  inr ((λ inside e. unlike _ _ e refl), record { is = refl; one_host = without colon (replicate 1024 0x61) refl }, omega arith),
  (λ is. elim is [
    | inl inside ↦ unlike _ _ inside.1 refl
    | inr plain ↦ omega (arith, plain.2)
  ]),
  inl (replicate 1022 0x61 ++ codes "]:80", refl, record { is = refl; one_host = without closing_bracket (replicate 1022 0x61) refl }, omega arith),
  (λ is. elim is [
    | inl inside ↦ omega (arith, inside.3)
    | inr plain ↦ plain.0 (replicate 1023 0x61 ++ codes "]:80") refl
  ]),
)
