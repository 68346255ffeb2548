use Rattle.std.proofs.Common.{[], ◌∷◌, None, Some, refl}
use Rattle.std.specs.Prelude.{codes}
use Rattle.login_terms.specs.Examples.{restricted, at, listening, opening}
use Rattle.login_terms.specs.Options.{no_terms}
use Rattle.login_terms.proofs.Asked.{not_listened, listened}
use Rattle.login_terms.proofs.examples.listened.Goals as goal

pub returns : goal.returns
returns c = (
  listened no_terms (codes "localhost") 8080 refl,
  listened no_terms [] 0 refl,
  listened no_terms [] 65535 refl,
  not_listened no_terms [] 65536 refl,
  not_listened restricted [] 8080 refl,
  not_listened (record restricted { permit_listen = at (codes "*") None ∷ [] }) [] 8080 refl,
  listened (listening (codes "localhost") (Some 8080)) (codes "localhost") 8080 refl,
  listened (listening (codes "localhost") (Some 8080)) (codes "LocalHost") 8080 refl,
  not_listened (listening (codes "Localhost") (Some 8080)) (codes "Localhost") 8080 refl,
  not_listened (listening (codes "localhost") (Some 8080)) [] 8080 refl,
  not_listened (listening (codes "localhost") (Some 8080)) (codes "127.0.0.1") 8080 refl,
  not_listened (listening (codes "localhost") (Some 8080)) (codes "localhost") 8081 refl,
  listened (listening (codes "*") (Some 8080)) [] 8080 refl,
  listened (listening (codes "*.0.0.?") None) (codes "127.0.0.1") 0 refl,
  not_listened (listening (codes "*.0.0.?") None) (codes "::1") 0 refl,
  not_listened (listening (codes "*") (Some 8080)) [] 0 refl,
  listened (opening (codes "a") (Some 1)) (codes "b") 2 refl,
)
