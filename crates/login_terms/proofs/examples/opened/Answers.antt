use Rattle.std.proofs.Common.{[], ◌∷◌, None, Some, refl}
use Rattle.std.specs.Prelude.{codes}
use Rattle.login_terms.specs.Examples.{restricted, at, listening, opening}
use Rattle.login_terms.specs.Options.{no_terms}
use Rattle.login_terms.proofs.Asked.{not_opened, opened}
use Rattle.login_terms.proofs.examples.opened.Goals as goal

pub returns : goal.returns
returns c = (
  opened no_terms (codes "db") 22 refl,
  opened no_terms [] 0 refl,
  opened no_terms (codes "db") 65535 refl,
  not_opened no_terms (codes "db") 65536 refl,
  not_opened restricted (codes "db") 22 refl,
  not_opened (record restricted { permit_open = at (codes "db") (Some 5432) ∷ [] }) (codes "db") 5432 refl,
  opened (opening (codes "db") (Some 5432)) (codes "db") 5432 refl,
  not_opened (opening (codes "db") (Some 5432)) (codes "db") 5433 refl,
  not_opened (opening (codes "db") (Some 5432)) (codes "DB") 5432 refl,
  not_opened (opening (codes "db") (Some 5432)) (codes "db.") 5432 refl,
  opened (opening (codes "*") (Some 80)) (codes "::1") 80 refl,
  not_opened (opening (codes "*") (Some 80)) (codes "::1") 81 refl,
  opened (opening (codes "db") None) (codes "db") 22 refl,
  not_opened (opening (codes "db") None) (codes "db") 65536 refl,
  not_opened (opening (codes "d?") None) (codes "db") 22 refl,
  not_opened (opening (codes "*b") None) (codes "db") 22 refl,
  opened (record no_terms { permit_open = at (codes "a") (Some 1) ∷ at (codes "b") (Some 2) ∷ [] }) (codes "b") 2 refl,
  not_opened (record no_terms { permit_open = at (codes "a") (Some 1) ∷ at (codes "b") (Some 2) ∷ [] }) (codes "a") 2 refl,
  opened (listening (codes "a") (Some 1)) (codes "b") 2 refl,
)
