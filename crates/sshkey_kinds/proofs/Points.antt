-- A point string is taken exactly where it is one of some curve.
use Rattle.std.proofs.Common.{◌≡◌, ◌↔◌, ℕ, List, IsOk, Result, Ok, Err, refl}
use Rattle.sshkey_model.specs.Reading.{Fault, ◌>>=◌}
use Rattle.sshkey_model.specs.Names.{Curve}
use Rattle.sshkey_model.specs.Points.{point_curve}
use Rattle.sshkey_model.proofs.PointReaders.{point_takes, point_again}
use Rattle.sshkey_base.specs.declared.error.Error.{Error}
use Rattle.sshkey_base.specs.Answers.{AnswersAlways}
use Rattle.sshkey_base.specs.Causes.{cause}
use Rattle.sshkey_kinds.specs.declared.ecdsa.EcdsaPublicKey.{EcdsaPublicKey}
use Rattle.sshkey_kinds.specs.EcdsaPublicKey.{ecdsa_of, sec1_from, IsAnyPoint}

pub taken_points : (b : List ℕ) (r : Result EcdsaPublicKey Error) → AnswersAlways ecdsa_of cause (sec1_from b) r → IsOk r ↔ IsAnyPoint b
taken_points b r h = go (point_curve b) r refl h
  where
    go : (found : Result Curve Fault) (r : Result EcdsaPublicKey Error) → point_curve b ≡ found → AnswersAlways ecdsa_of cause (found >>= λ c. Ok (c, b)) r → IsOk r ↔ IsAnyPoint b
    go (Ok c) (Ok k) e h = (λ ok. (c, point_takes b c e), λ point. refl)
    go (Ok c) (Err x) e h = absurd h
    go (Err f) (Ok k) e h = absurd h
    go (Err f) (Err x) e h = (λ ok. absurd (cc ok), λ point. let a = point_again b point.0 point.1 in let is = a.0 in cc (e, is))
