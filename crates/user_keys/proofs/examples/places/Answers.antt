use Rattle.std.proofs.Common.{ℕ, List, [], ◌∷◌, ap, codes, get_or, refl}
use Rattle.sshkey_entries.specs.Fields.{without_front}
use Rattle.user_keys.proofs.ExampleLemmas.{unlike}
use Rattle.user_keys.proofs.examples.places.Goals as goal

pub returns : goal.returns
unfolding without_front
returns c = (
  (refl, (codes "", refl, tt)),
  (refl, (codes "", refl, tt)),
  (refl, (codes "", refl, tt)),
  (λ is. unlike (codes "x") (codes "a") (ap (λ (s : ℕ). s ∷ []) is.0) refl),
  (λ is. unlike (codes " ") (codes "b") (ap (λ (l : List ℕ). get_or l 0 0 ∷ []) is.1.1) refl),
  (λ is. unlike (codes "\0") (codes "b") (ap (λ (l : List ℕ). get_or l 0 0 ∷ []) is.1.1) refl),
  (λ is. is),
)
