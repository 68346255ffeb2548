use Rattle.std.proofs.Common.{refl, true}
use Rattle.user_keys.specs.UserLogins.{but_tunnels}
use Rattle.user_keys.specs.LoginExamples.{leaves_tunnels, restricted, takes_all}
use Rattle.login_terms.specs.Options.{none_permitted}
use Rattle.user_keys.proofs.ExampleLemmas.{as_told, not_all}
use Rattle.user_keys.proofs.examples.restricted.Goals as goal

pub returns : goal.returns
returns c = (
  λ login by g both strict. strict (λ t. t) takes_all (as_told login by both (λ t. t) restricted refl),
  λ login by g both strict. strict but_tunnels leaves_tunnels (as_told login by both but_tunnels (record restricted { permissions = record none_permitted { tunnels = true } }) refl),
  λ login by both. not_all login by both,
)
