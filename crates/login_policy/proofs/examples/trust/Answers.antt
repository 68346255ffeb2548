use Rattle.std.proofs.Common.{◌-◌, ◌^◌, [], refl, sym, arith, lit<}
use Rattle.std.proofs.lemmas.List.Elements.{All-nil}
use Rattle.sshkey_model.specs.Certificates.{forever}
use Rattle.login_policy.specs.Examples.{fields, login}
use Rattle.login_policy.specs.KnownOptions.{IsKnownOption}
use Rattle.login_policy.proofs.ExampleLemmas.{let_in, never, right, two_names, valid}
use Rattle.login_policy.proofs.examples.trust.Goals as goal

pub returns : goal.returns
returns c = (
  λ l. omega (arith, l.valid.authority.1),
  λ l. never l.valid.signature,
  λ l. never (sym l.unrevoked),
  λ l. omega (arith, l.valid.after),
  let_in (record login { time = 199 }) fields (right login.user fields.valid_principals 200 [] (λ e. cc) (λ e. cc) two_names (All-nil IsKnownOption)) (0, omega arith, refl) refl (valid fields.valid_principals 200 199 [] (omega arith) (omega arith) (lit< tt)) tt,
  λ l. omega (arith, l.valid.before),
  let_in (record login { time = 2 ^ 63 - 1 }) (record fields { valid_before = forever }) (right login.user fields.valid_principals forever [] (λ e. cc) (λ e. cc) two_names (All-nil IsKnownOption)) (0, omega arith, refl) refl (valid fields.valid_principals forever (2 ^ 63 - 1) [] (omega arith) (lit< tt) (lit< tt)) tt,
  λ l. omega (arith, l.valid.time),
)
