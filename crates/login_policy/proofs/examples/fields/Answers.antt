use Rattle.std.proofs.Common.{[], refl, arith, lit<}
use Rattle.std.proofs.lemmas.List.Elements.{All-nil}
use Rattle.login_policy.specs.Examples.{fields, login}
use Rattle.login_policy.specs.KnownOptions.{IsKnownOption}
use Rattle.login_policy.proofs.ExampleLemmas.{let_in, never, right, two_names, valid}
use Rattle.login_policy.proofs.examples.fields.Goals as goal

pub returns : goal.returns
unfolding lib.Count.count_leading_zeros
returns c = (
  let_in login fields (right login.user fields.valid_principals 200 [] (λ e. cc) (λ e. cc) two_names (All-nil IsKnownOption)) (0, omega arith, refl) refl (valid fields.valid_principals 200 100 [] (omega arith) (omega arith) (lit< tt)) tt,
  λ l. let e = l.fields.for_users in cc,
  λ l. l.fields.key_id 1 (omega arith) refl,
  λ l. never l.fields.accepted,
  λ l. never l.fields.accepted,
)
