-- A test of each option decides whether all have one of the names.
use denote.Ref.{Bor}
use Rattle.std.proofs.Common.{◌≡◌, ◌↔◌, ℕ, List, [], ◌∷◌, Bool, true, refl, map, bytes_eq}
use Rattle.std.specs.List.{All, list_all, list_any}
use Rattle.std.proofs.lemmas.List.Sums.{AllPass-from_list_all, list_all-from_AllPass}
use Rattle.sshkey_model.specs.Options.{CertificateOption}
use Rattle.sshkey_model.proofs.Refusals.{contained, found, same_bytes}
use Rattle.sshkey_cert_values.specs.CertificateFields.{IsNamedAmong, is_among}

pub among_texts : (names : List (Bor (List ℕ))) (name : List ℕ) → is_among names name ≡ list_any (λ known. bytes_eq name known.now) names
among_texts [] name = refl
among_texts (known ∷ names) name = rw (among_texts names name) refl

among : (names : List (Bor (List ℕ))) (o : CertificateOption) → (is_among names o.name ≡ true) ↔ IsNamedAmong names o
among names o = (contained bytes_eq same_bytes o.name (map (λ known. known.now) names), found bytes_eq same_bytes o.name (map (λ known. known.now) names))

-- a test of each element decides `All`
all_passed : {X : Type 0} (p : X → Bool) (P : X → Type 0) → ((x : X) → (p x ≡ true) ↔ P x) → (xs : List X) → (list_all p xs ≡ true) ↔ All P xs
all_passed p P each xs = (λ h k d lt. (each _).0 (AllPass-from_list_all p xs h k d lt), λ all. list_all-from_AllPass p xs (λ k d lt. (each _).1 (all k d lt)))

pub all_among : (names : List (Bor (List ℕ))) (os : List CertificateOption) → (list_all (λ o. is_among names o.name) os ≡ true) ↔ All (IsNamedAmong names) os
all_among names os = all_passed (λ o. is_among names o.name) (IsNamedAmong names) (among names) os
