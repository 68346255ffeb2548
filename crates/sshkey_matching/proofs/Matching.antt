-- When a pattern matches a text, one character after the other.
use Rattle.std.proofs.Common.{◌≡◌, ◌≢◌, ◌↔◌, ℕ, ◌+◌, ◌-◌, ◌<◌, ◌≤◌, List, [], ◌∷◌, ◌++◌, length, take, drop, slice_index, inl, inr, refl, sym, ap, subst, ◌∙◌, arith}
use Rattle.std.proofs.lemmas.List.{take-append-drop, length-drop, drop-drop}
use Rattle.std.proofs.lemmas.Bool.{cases_lt}
use Rattle.std.proofs.Math.ListN.{drop_of_length-le}
use Rattle.std.proofs.Math.Seq.{drop-append_seam, take-length}
use Rattle.sshkey_matching.specs.Patterns.{Matches, StandsFor, star, GoesOn, HasFront, IsStuck, MatchesLater}

module _ (fold : ℕ → ℕ) where
  -- ---- a star

  pub star_matches : (pattern text : List ℕ) → Matches fold (star ∷ pattern) text ↔ MatchesLater fold pattern text
  star_matches pattern text = (
    λ m. (length m.0, subst (Matches fold pattern) (sym (drop-append_seam m.0 m.1) ∙ ap (drop (length m.0)) (sym m.2)) m.4),
    λ m. (take m.0 text, drop m.0 text, sym (take-append-drop m.0 text), inl refl, m.1),
  )

  -- ---- another character

  one_character : (c : ℕ) (part : List ℕ) → c ≢ star → StandsFor fold c part → (x : ℕ) × (part ≡ x ∷ [])
  one_character c part other (inl is) = absurd (other is)
  one_character c [] other (inr (inl x)) = absurd (omega (arith, x.1))
  one_character c (x ∷ []) other (inr (inl y)) = (x, refl)
  one_character c (x ∷ z ∷ part) other (inr (inl y)) = absurd (omega (arith, y.1))
  one_character c part other (inr (inr y)) = (y.0, y.1)

  -- the text's first character is the one that the pattern's stands for
  pub taken : (c : ℕ) (pattern text : List ℕ) → c ≢ star → Matches fold (c ∷ pattern) text → (1 ≤ length text) × StandsFor fold c (take 1 text) × Matches fold pattern (drop 1 text)
  taken c pattern text other m =
      let one = one_character c m.0 other m.3 in
      let is : text ≡ one.0 ∷ m.1 = m.2 ∙ ap (λ (l : List ℕ). l ++ m.1) one.1 in
      (omega (arith, ap length is), subst (StandsFor fold c) (one.1 ∙ ap (take 1) (sym is)) m.3, subst (Matches fold pattern) (ap (drop 1) (sym is)) m.4)

  pub goes_more : (pattern text : List ℕ) (c x : ℕ) (rest left : List ℕ) → c ≢ star → StandsFor fold c (x ∷ []) → GoesOn fold pattern text (c ∷ rest) (x ∷ left) → GoesOn fold pattern text rest left
  goes_more pattern text c x rest left other stands g = record {
    steps = g.steps + 1;
    is = ap (drop 1) g.is ∙ drop-drop 1 g.steps text;
    same = (
      λ m. (taken c rest (x ∷ left) other (g.same.0 m)).2,
      λ m. g.same.1 (x ∷ [], left, refl, stands, m),
    );
    others = λ o m. let was = g.others o m in let next = taken c rest (drop g.steps o) other was.1 in (omega (arith, was.0, next.0, length-drop g.steps o), subst (Matches fold rest) (drop-drop 1 g.steps o) next.2);
    shorter = omega (arith, g.shorter);
  }

  -- ---- the places of a text

  -- a pattern that a star begins matches what it matches further on
  star_further : (rest left : List ℕ) (j : ℕ) → slice_index rest 0 ≡ star → Matches fold rest (drop j left) → Matches fold rest left
  star_further [] left j e m = absurd (omega (arith, e))
  star_further (c ∷ rest) left j e m =
      let later = (star_matches rest (drop j left)).0 (subst (λ (x : ℕ). Matches fold (x ∷ rest) (drop j left)) e m) in
      subst (λ (x : ℕ). Matches fold (x ∷ rest) left) (sym e) ((star_matches rest left).1 (j + later.0, subst (Matches fold rest) (drop-drop later.0 j left) later.1))

  module _ (pattern text from rest left : List ℕ) (place : ℕ) (from_is : from ≡ drop place text) (before : (k : ℕ) → k < place → Matches fold pattern (drop k text) → ⊥) (goes : GoesOn fold pattern from rest left) (stuck : IsStuck fold rest left) where
    -- from this place on
    later : (k : ℕ) → place ≤ k → Matches fold pattern (drop k text) → Matches fold rest (drop (k - place) left)
    later k le m =
        let sum : place + (k - place) ≡ k = omega (arith, le) in
        let there : drop k text ≡ drop (k - place) from = ap (λ (n : ℕ). drop n text) (sym sum) ∙ sym (drop-drop (k - place) place text) ∙ ap (drop (k - place)) (sym from_is) in
        let more = (goes.others (drop (k - place) from) (subst (Matches fold pattern) there m)).1 in
        let swapped : (k - place) + goes.steps ≡ goes.steps + (k - place) = omega arith in
        subst (Matches fold rest) (drop-drop goes.steps (k - place) from ∙ ap (λ (n : ℕ). drop n from) swapped ∙ sym (drop-drop (k - place) goes.steps from) ∙ ap (drop (k - place)) (sym goes.is)) more

    here : Matches fold rest left → MatchesLater fold pattern text
    here m = (place, subst (Matches fold pattern) from_is (goes.same.1 m))

    by_place : (k : ℕ) → Matches fold pattern (drop k text) → place ≤ k
    by_place k m = elim (cases_lt k place) [
      | inl less ↦ absurd (before k less m)
      | inr above ↦ above
    ]

    pub found_star : slice_index rest 0 ≡ star → HasFront fold pattern text rest left
    found_star e = record {
      same = (λ m. star_further rest left (m.0 - place) e (later m.0 (by_place m.0 m.1) m.1), here);
      stuck = stuck;
      shorter = goes.shorter;
    }

    pub no_more : slice_index rest 0 ≢ star → left ≡ [] → (rest ≡ [] → ⊥) → MatchesLater fold pattern text → ⊥
    no_more no_star f some m =
        let end : drop (m.0 - place) left ≡ left = ap (drop (m.0 - place)) f ∙ drop_of_length-le [] (omega arith) ∙ sym f in
        some (stuck no_star (subst (Matches fold rest) end (later m.0 (by_place m.0 m.1) m.1))).0

    pub not_here : slice_index rest 0 ≢ star → (left ≡ [] → ⊥) → (k : ℕ) → k < place + 1 → Matches fold pattern (drop k text) → ⊥
    not_here no_star some k l m =
        let at : k ≡ place = (let above = by_place k m in omega (arith, above, l)) in
        some (stuck no_star (goes.same.0 (subst (Matches fold pattern) (ap (λ (n : ℕ). drop n text) at ∙ sym from_is) m))).1

  -- ---- slices

  after_one : (c : ℕ) (rest : List ℕ) → take (length (c ∷ rest) - 1) rest ≡ rest
  after_one c rest = let size : length (c ∷ rest) - 1 ≡ length rest = omega arith in ap (λ (n : ℕ). take n rest) size ∙ take-length rest

  pub goes_further : (pattern text rest left after more : List ℕ) (c x : ℕ) → rest ≡ c ∷ after → left ≡ x ∷ more → c ≢ star → StandsFor fold c (x ∷ []) → GoesOn fold pattern text rest left → GoesOn fold pattern text after more
  goes_further pattern text rest left after more c x rest_is left_is other stands g =
      goes_more pattern text c x after more other stands (subst (GoesOn fold pattern text (c ∷ after)) left_is (subst (λ (l : List ℕ). GoesOn fold pattern text l left) rest_is g))

  -- a star at the front, and what follows it
  pub after_star : (rest left : List ℕ) → 1 ≤ length rest → slice_index rest 0 ≡ star → Matches fold rest left ↔ MatchesLater fold (take (length rest - 1) (drop 1 rest)) left
  after_star [] left some e = absurd (omega (arith, some))
  after_star (c ∷ rest) left some e =
      subst (λ (l : List ℕ). Matches fold (c ∷ rest) left ↔ MatchesLater fold l left) (sym (after_one c rest)) (subst (λ (x : ℕ). Matches fold (x ∷ rest) left ↔ MatchesLater fold rest left) (sym e) (star_matches rest left))
