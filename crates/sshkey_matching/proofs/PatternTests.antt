-- Tests that compute whether a pattern matches, and whether a list of patterns does, for worked
-- examples.
use Rattle.std.proofs.Common.{◌≡◌, ℕ, zero, suc, ◌<◌, Bool, true, false, not, ◌==◌, ◌&&◌, ◌||◌, List, [], ◌∷◌, ◌++◌, length, take, drop, slice_index, refl, sym, ap, subst, ◌∙◌, arith, length-append}
use Rattle.std.specs.Bool.{Decides}
use Rattle.std.specs.List.{All, Any, list_any, list_all}
use Rattle.std.proofs.lemmas.Bool.Decides.{Decides-and, Decides-or, Decides-not, Decides-eqb, Decides-ltb, Decides-like, Decides-below_or, Decides-by_and}
use Rattle.std.proofs.lemmas.List.{take-append-drop}
use Rattle.std.proofs.lemmas.List.Folds.{Any-from_list_any, list_any-from_Any}
use Rattle.std.proofs.Math.Seq.{drop-append_seam, take-append_seam}
use Rattle.sshkey_matching.specs.Patterns.{patterns, IsNamed, IsShortPattern, Matches, MatchesList, MatchesNegated, MatchesUnnegated, StandsFor, exclamation_mark, question_mark, star, unmarked}
use Rattle.std.specs.Prelude.{nat_lt}

-- ---- of each and of some

pub decides_any : {X : Type 0} (p : X → Bool) (P : X → Type 0) → ((x : X) → Decides (p x) (P x)) → (xs : List X) → Decides (list_any p xs) (Any P xs)
decides_any p P each xs = (
  λ e. let a = Any-from_list_any p xs e in (a.0, a.1, a.2, a.3, (each a.1).0 a.4),
  λ a. list_any-from_Any p xs (a.0, a.1, a.2, a.3, (each a.1).1 a.4),
)

pub decides_all : {X : Type 0} (p : X → Bool) (P : X → Type 0) → ((x : X) → Decides (p x) (P x)) → (xs : List X) → Decides (list_all p xs) (All P xs)
decides_all p P each xs = Decides-by_and p P (list_all p) each refl (λ x l. refl) xs

-- ---- a pattern

module _ (fold : ℕ → ℕ) where
  abbrev is_one : ℕ → List ℕ → Bool
  is_one c [] = false
  is_one c (x ∷ []) = fold c == fold x
  is_one c (x ∷ z ∷ part) = false

  decides_one : (c : ℕ) (part : List ℕ) → Decides (is_one c part) ((x : ℕ) × (part ≡ x ∷ []) × (fold c ≡ fold x))
  decides_one c [] = (λ e. absurd cc, λ y. absurd (omega (arith, ap length y.1)))
  decides_one c (x ∷ []) = Decides-like (fold c == fold x) (λ e. (x, refl, e)) (λ y. y.2 ∙ ap (λ (l : List ℕ). fold (slice_index l 0)) (sym y.1)) (Decides-eqb (fold c) (fold x))
  decides_one c (x ∷ z ∷ part) = (λ e. absurd cc, λ y. absurd (omega (arith, ap length y.1)))

  abbrev stands : ℕ → List ℕ → Bool
  stands c part = (c == star) || (((c == question_mark) && (length part == 1)) || is_one c part)

  decides_stands : (c : ℕ) (part : List ℕ) → Decides (stands c part) (StandsFor fold c part)
  decides_stands c part = Decides-or _ _ (Decides-eqb c star) (Decides-or _ _ (Decides-and _ _ (Decides-eqb c question_mark) (Decides-eqb (length part) 1)) (decides_one c part))

  abbrev below : (ℕ → Bool) → ℕ → Bool
  below p zero = false
  below p (suc n) = p n || below p n

  abbrev pub matches : List ℕ → List ℕ → Bool
  matches [] text = length text == 0
  matches (c ∷ pattern) text = below (λ k. stands c (take k text) && matches pattern (drop k text)) (suc (length text))

  empty : (text : List ℕ) → length text ≡ 0 → text ≡ []
  empty [] e = refl
  empty (c ∷ text) e = absurd (omega (arith, e))

  parted : (pattern text : List ℕ) (c : ℕ) → ((part rest : List ℕ) × (text ≡ part ++ rest) × StandsFor fold c part × Matches fold pattern rest) → (k : ℕ) × (k < suc (length text)) × (StandsFor fold c (take k text) × Matches fold pattern (drop k text))
  parted pattern text c m = (
    length m.0,
    omega (arith, ap length m.2, length-append m.0 m.1),
    (subst (StandsFor fold c) (sym (take-append_seam m.0 m.1) ∙ ap (take (length m.0)) (sym m.2)) m.3, subst (Matches fold pattern) (sym (drop-append_seam m.0 m.1) ∙ ap (drop (length m.0)) (sym m.2)) m.4),
  )

  pub decides_match : (pattern text : List ℕ) → Decides (matches pattern text) (Matches fold pattern text)
  decides_match [] text = Decides-like (length text == 0) (empty text) (ap length) (Decides-eqb (length text) 0)
  decides_match (c ∷ pattern) text =
      Decides-like (matches (c ∷ pattern) text) (λ m. (take m.0 text, drop m.0 text, sym (take-append-drop m.0 text), m.2.0, m.2.1)) (parted pattern text c)
      (Decides-below_or (λ k. stands c (take k text) && matches pattern (drop k text)) (λ k. StandsFor fold c (take k text) × Matches fold pattern (drop k text)) (below (λ k. stands c (take k text) && matches pattern (drop k text)))
      (λ k. Decides-and _ _ (decides_stands c (take k text)) (decides_match pattern (drop k text))) refl (λ n. refl) (suc (length text)))

  -- ---- a list

  abbrev names : List ℕ → List ℕ → Bool
  names text pattern = not (slice_index pattern 0 == exclamation_mark) && matches pattern text

  abbrev refuses : List ℕ → List ℕ → Bool
  refuses text pattern = (slice_index pattern 0 == exclamation_mark) && matches (unmarked pattern) text

  abbrev is_short : List ℕ → Bool
  is_short pattern = nat_lt (length (unmarked pattern)) 1023

  abbrev is_named : List ℕ → List (List ℕ) → Bool
  is_named text ps = list_any (names text) ps && not (list_any (refuses text) ps)

  abbrev pub matches_list : List ℕ → List ℕ → Bool
  matches_list list text = is_named text (patterns list) && list_all is_short (patterns list)

  decides_named : (text : List ℕ) (ps : List (List ℕ)) → Decides (is_named text ps) (IsNamed fold text ps)
  decides_named text ps =
      Decides-and _ _ (decides_any (names text) (MatchesUnnegated fold text) (λ p. Decides-and _ _ (Decides-not _ (Decides-eqb (slice_index p 0) exclamation_mark)) (decides_match p text)) ps)
      (Decides-not _ (decides_any (refuses text) (MatchesNegated fold text) (λ p. Decides-and _ _ (Decides-eqb (slice_index p 0) exclamation_mark) (decides_match (unmarked p) text)) ps))

  pub decides_list : (list text : List ℕ) → Decides (matches_list list text) (MatchesList fold list text)
  decides_list list text =
      Decides-like (matches_list list text) (λ b. record { named = b.0; short = b.1 }) (λ m. (m.named, m.short))
      (Decides-and _ _ (decides_named text (patterns list)) (decides_all is_short IsShortPattern (λ p. Decides-ltb (length (unmarked p)) 1023) (patterns list)))

-- ---- tables

-- what the test says of each row
module _ (test : List ℕ → List ℕ → Bool) (Holds : List ℕ → List ℕ → Type 0) (decides : (x y : List ℕ) → Decides (test x y) (Holds x y)) where
  pub each_row : (rows : List (List ℕ × List ℕ)) → list_all (λ r. test r.0 r.1) rows ≡ true → All (λ r. Holds r.0 r.1) rows
  each_row rows e = (decides_all (λ r. test r.0 r.1) (λ r. Holds r.0 r.1) (λ r. decides r.0 r.1) rows).0 e

  pub no_row : (rows : List (List ℕ × List ℕ)) → list_all (λ r. not (test r.0 r.1)) rows ≡ true → All (λ r. ¬ Holds r.0 r.1) rows
  no_row rows e = (decides_all (λ r. not (test r.0 r.1)) (λ r. ¬ Holds r.0 r.1) (λ r. Decides-not _ (decides r.0 r.1)) rows).0 e
