use Rattle.std.proofs.Common.{[], ◌∷◌, codes, refl, arith, lit<}
use Rattle.std.proofs.lemmas.List.Elements.{All-nil}
use Rattle.login_policy.specs.Examples.{fields, login}
use Rattle.login_policy.specs.KnownOptions.{IsKnownOption}
use Rattle.login_policy.proofs.ExampleLemmas.{all_free, let_in, not_among, right, two_names, valid}
use Rattle.login_policy.proofs.examples.users.Goals as goal

pub returns : goal.returns
returns c = (
  let_in (record login { user = codes "bob" }) fields (right (codes "bob") fields.valid_principals 200 [] (λ e. cc) (λ e. cc) two_names (All-nil IsKnownOption)) (1, omega arith, refl) refl (valid fields.valid_principals 200 100 [] (omega arith) (omega arith) (lit< tt)) tt,
  λ l. not_among (codes "carol") fields.valid_principals refl l.listed,
  λ l. not_among (codes "Alice") fields.valid_principals refl l.listed,
  λ l. l.fields.principals.some refl,
  λ l. l.fields.principals.named refl,
  let_in login (record fields { valid_principals = codes "alice" ∷ [] ∷ [] })
      (right login.user (codes "alice" ∷ [] ∷ []) 200 [] (λ e. cc) (λ e. cc) (record { few = omega arith; no_zero = all_free (codes "alice" ∷ [] ∷ []) refl }) (All-nil IsKnownOption))
      (0, omega arith, refl) refl (valid (codes "alice" ∷ [] ∷ []) 200 100 [] (omega arith) (omega arith) (lit< tt)) tt,
  λ l. l.fields.principals.read.no_zero 1 [] (omega arith) 0 (omega arith) refl,
  λ a. a.some refl,
  λ a. omega (arith, a.read.few),
)
