use Rattle.std.proofs.Common.{[], sym, refl, arith, lit<}
use Rattle.std.proofs.lemmas.List.Elements.{All-nil}
use Rattle.login_policy.specs.Examples.{fields, login, forged}
use Rattle.login_policy.specs.KnownOptions.{IsKnownOption}
use Rattle.login_policy.specs.Logins.{unasked}
use Rattle.login_policy.proofs.ExampleLemmas.{let_in, never, right, two_names, valid}
use Rattle.login_policy.proofs.examples.pendings.Goals as goal

pub returns : goal.returns
returns c =
    let all = right login.user fields.valid_principals 200 [] (λ e. cc) (λ e. cc) two_names (All-nil IsKnownOption) in
    let now = valid fields.valid_principals 200 100 [] (omega arith) (omega arith) (lit< tt) in (
      let_in (unasked login) fields all (0, omega arith, refl) refl now tt,
      let_in (unasked forged) fields all (0, omega arith, refl) refl now tt,
      λ l. never l.valid.signature,
      λ l. omega (arith, l.valid.before),
      λ l. omega (arith, l.valid.authority.1),
      λ l. never (sym l.unrevoked),
      λ l. l.from,
    )
