use Rattle.std.proofs.Common.{sym, ◌∙◌}
use Rattle.login_policy.proofs.ExampleLemmas.{never}
use Rattle.login_policy.proofs.examples.unbound.Goals as goal

pub returns : goal.returns
returns c = (
  λ g none no. record { any_command = none; unverified = no },
  λ g some u. some u.any_command,
  λ g yes u. never (sym u.unverified ∙ yes),
)
