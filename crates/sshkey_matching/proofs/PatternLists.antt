-- A list of patterns, one pattern after the other.
use Rattle.std.proofs.Common.{◌≡◌, ◌⊎◌, ◌↔◌, ℕ, zero, suc, ◌<◌, ◌+◌, List, [], ◌∷◌, ◌++◌, length, get_or, take, drop, position, slice_index_or, Bool, true, false, cond, IsTrue, Bor, None, Some, inl, inr, sym, ap, subst, ◌∙◌, refl, arith, ne_eqb, eqb-true, lt-ltb, take-append-drop, drop-cons, ◌==◌, ◌||◌}
use Rattle.std.specs.List.{All, Any, slice_split, before_first, after_first, position_or_len}
use Rattle.std.proofs.lemmas.Bool.{cases_lt}
use Rattle.std.proofs.lemmas.List.{get_or-take, length-take-le}
use Rattle.std.proofs.lemmas.List.Quantifiers.{position-Some}
use Rattle.std.proofs.lemmas.List.Sums.{fails_before_first}
use Rattle.std.proofs.lemmas.List.Elements.{All-nil, All-cons, All-head, All-tail, All-from_get_or}
use Rattle.std.proofs.lemmas.List.Splits.{slice_split_at, slice_split_none, slice_split_first, length-slice_split}
use Rattle.std.proofs.lemmas.Str.Pattern.{IsSplitOnceResult, split_parts, split_once_first}
use Rattle.sshkey_matching.specs.Patterns.{patterns, without_empty_last, is_comma, IsShortPattern, MatchesUnnegated, MatchesNegated}

-- ---- the patterns of a list

-- a piece that is not the last is kept
pub kept_first : (piece : List ℕ) (parts : List (List ℕ)) → 0 < length parts → without_empty_last (piece ∷ parts) ≡ piece ∷ without_empty_last parts
kept_first piece [] some = absurd (omega arith)
kept_first piece (next ∷ more) some = refl

-- and so is a last one with characters
pub kept_last : (piece : List ℕ) → 0 < length piece → without_empty_last (piece ∷ []) ≡ piece ∷ []
kept_last [] some = absurd (omega arith)
kept_last (c ∷ piece) some = ap (λ (t : Bool). cond t [] ((c ∷ piece) ∷ [])) (ne_eqb (length (c ∷ piece)) 0 (λ e. absurd (omega arith)))

pub patterns_first : (list : List ℕ) (pattern rest : Bor (List ℕ)) → IsSplitOnceResult 0x2c list (Some (pattern, rest)) → patterns list ≡ pattern.now ∷ patterns rest.now
unfolding patterns
patterns_first list pattern rest cut =
    let at = split_once_first 0x2c list (Some (pattern, rest)) cut (omega arith) in
    ap without_empty_last (slice_split_first is_comma list 0 at.0)
    ∙ kept_first (before_first is_comma list) _ (omega (arith, length-slice_split is_comma (after_first is_comma list)))
    ∙ (λ j. sym at.1 j ∷ without_empty_last (slice_split is_comma (sym at.2 j)))

pub patterns_last : (list : List ℕ) → IsSplitOnceResult 0x2c list None → 0 < length list → patterns list ≡ list ∷ patterns []
unfolding patterns
patterns_last list none some =
    ap without_empty_last (slice_split_none is_comma list (All-from_get_or (λ c. is_comma c ≡ false) list 0 (λ k l. ne_eqb _ 0x2c (split_parts 0x2c list None none (omega arith) k l))))
    ∙ kept_last list some

-- a list is what stands before the first character that passes a test, that character, and what
-- follows it
module _ (is : ℕ → Bool) (c : ℕ) (only : (x : ℕ) → is x ≡ true → x ≡ c) (text : List ℕ) (n : ℕ) (at : Some n ≡ position is text) where
  place : (n < length text) × (is (get_or text n 0) ≡ true) × ((k : ℕ) → k < n → is (get_or text k 0) ≡ false)
  place = position-Some is text n 0 (sym at)

  pub parts_at : text ≡ take n text ++ (c ∷ drop (n + 1) text)
  parts_at =
      let one : n + 1 ≡ suc n = omega arith in
      sym (take-append-drop n text)
      ∙ ap (λ (r : List ℕ). take n text ++ r) (drop-cons text n 0 place.0 ∙ ap (λ (x : ℕ). x ∷ drop (suc n) text) (only (get_or text n 0) place.1) ∙ ap (λ (k : ℕ). c ∷ drop k text) (sym one))

  pub none_before : All (λ x. is x ≡ false) (take n text)
  none_before =
      let size : length (take n text) ≡ n = length-take-le n text (omega (arith, place.0)) in
      All-from_get_or (λ x. is x ≡ false) (take n text) 0 (λ i l. ap is (get_or-take n text i 0 (omega (arith, l, size))) ∙ place.2 i (omega (arith, l, size)))

no_place : (p : ℕ → Bool) (xs : List ℕ) → None ≡ position p xs → (k : ℕ) → k < length xs → p (get_or xs k 0) ≡ false
no_place p xs none k l = elim (cases_lt (position_or_len p xs) (length xs)) [
  | inl less ↦ cc (none ∙ ap (λ (b : Bool). cond b (Some (position_or_len p xs)) None) (lt-ltb _ _ less))
  | inr above ↦ fails_before_first p xs k 0 (omega (arith, l, above))
]

pub none_there : (is : ℕ → Bool) (text : List ℕ) → None ≡ position is text → All (λ x. is x ≡ false) text
none_there is text none = All-from_get_or (λ x. is x ≡ false) text 0 (no_place is text none)

pub patterns_at : (list pattern rest : List ℕ) (n : ℕ) → Some n ≡ position is_comma list → pattern ≡ take n list → rest ≡ drop (n + 1) list → patterns list ≡ pattern ∷ patterns rest
unfolding patterns
patterns_at list pattern rest n at front back =
    ap (λ (l : List ℕ). without_empty_last (slice_split is_comma l)) (parts_at is_comma 0x2c (λ x e. eqb-true x 0x2c e) list n at)
    ∙ ap without_empty_last (slice_split_at is_comma (take n list) 0x2c (drop (n + 1) list) (none_before is_comma 0x2c (λ x e. eqb-true x 0x2c e) list n at) refl)
    ∙ kept_first (take n list) _ (omega (arith, length-slice_split is_comma (drop (n + 1) list)))
    ∙ (λ j. sym front j ∷ without_empty_last (slice_split is_comma (sym back j)))

pub patterns_alone : (list : List ℕ) → None ≡ position is_comma list → 0 < length list → patterns list ≡ list ∷ patterns []
unfolding patterns
patterns_alone list none some = ap without_empty_last (slice_split_none is_comma list (none_there is_comma list none)) ∙ kept_last list some

pub no_patterns_left : (list : List ℕ) (empty : Bool) → empty ≡ (length list == 0) → empty ≡ true → patterns list ≡ []
unfolding patterns
no_patterns_left [] empty judged e = refl
no_patterns_left (c ∷ list) empty judged e = let zero_long : length (c ∷ list) ≡ 0 = eqb-true _ 0 (sym judged ∙ e) in absurd (omega arith)

-- ---- one of a list

module _ {X : Type 0} (P : X → Type 0) (x : X) (xs : List X) where
  any_here : P x → Any P (x ∷ xs)
  any_here p = (0, x, omega arith, refl, p)

  any_after : Any P xs → Any P (x ∷ xs)
  any_after a = (suc a.0, a.1, omega (arith, a.2), a.3, a.4)

  at_place : (k : ℕ) (y : X) → k < length (x ∷ xs) → slice_index_or (x ∷ xs) k y ≡ y → P y → P x ⊎ Any P xs
  at_place zero y l e p = inl (subst P (sym e) p)
  at_place (suc k) y l e p = inr (k, y, omega (arith, l), e, p)

  any_cases : Any P (x ∷ xs) → P x ⊎ Any P xs
  any_cases a = at_place a.0 a.1 a.2 a.3 a.4

-- ---- what is found so far

-- One was found before, or is among these; none of these refuses the text, or is too long.
pub record StillListed (fold : ℕ → ℕ) (found : Bool) (text : List ℕ) (ps : List (List ℕ)) : Type 0 where
  pub named : IsTrue found ⊎ Any (MatchesUnnegated fold text) ps
  pub not_refused : ¬ Any (MatchesNegated fold text) ps
  pub short : All IsShortPattern ps

pub at_last : (fold : ℕ → ℕ) (found : Bool) (text : List ℕ) (ps : List (List ℕ)) → ps ≡ [] → StillListed fold found text ps ↔ IsTrue found
at_last fold found text ps none = (
  λ still. elim still.named [ inl named_here ↦ named_here | inr some ↦ absurd (omega (arith, some.2, ap length none)) ],
  λ named_here. record {
    named = inl named_here;
    not_refused = λ some. absurd (omega (arith, some.2, ap length none));
    short = subst (All IsShortPattern) (sym none) (All-nil IsShortPattern);
  },
)

or_named : (found named_here : Bool) → IsTrue found ⊎ IsTrue named_here → IsTrue (found || named_here)
or_named true named_here e = refl
or_named false true e = refl
or_named false false (inl e) = e
or_named false false (inr e) = e

either_named : (found named_here : Bool) → IsTrue (found || named_here) → IsTrue found ⊎ IsTrue named_here
either_named true named_here e = inl refl
either_named false named_here e = inr e

module _ (fold : ℕ → ℕ) (found : Bool) (text pattern : List ℕ) (all ps : List (List ℕ)) (is : all ≡ pattern ∷ ps) where
  pub too_long : (IsShortPattern pattern → ⊥) → StillListed fold found text all → ⊥
  too_long long still = long (All-head IsShortPattern pattern ps (subst (All IsShortPattern) is still.short))

  pub refused : MatchesNegated fold text pattern → StillListed fold found text all → ⊥
  refused refusal still = still.not_refused (subst (Any (MatchesNegated fold text)) (sym is) (any_here (MatchesNegated fold text) pattern ps refusal))

  module _ (named_here : Bool) (short : IsShortPattern pattern) (kept : MatchesNegated fold text pattern → ⊥) (names : IsTrue named_here ↔ MatchesUnnegated fold text pattern) where
    pub one_less : StillListed fold found text all ↔ StillListed fold (found || named_here) text ps
    one_less = (
      λ still. record {
        named = elim still.named [
          | inl before ↦ inl (or_named found named_here (inl before))
          | inr some ↦ elim (any_cases (MatchesUnnegated fold text) pattern ps (subst (Any (MatchesUnnegated fold text)) is some)) [
            | inl here ↦ inl (or_named found named_here (inr (names.1 here)))
            | inr after ↦ inr after
          ]
        ];
        not_refused = λ refusal. still.not_refused (subst (Any (MatchesNegated fold text)) (sym is) (any_after (MatchesNegated fold text) pattern ps refusal));
        short = All-tail IsShortPattern pattern ps (subst (All IsShortPattern) is still.short);
      },
      λ still. record {
        named = elim still.named [
          | inl before ↦ elim (either_named found named_here before) [
            | inl found_before ↦ inl found_before
            | inr here ↦ inr (subst (Any (MatchesUnnegated fold text)) (sym is) (any_here (MatchesUnnegated fold text) pattern ps (names.0 here)))
          ]
          | inr after ↦ inr (subst (Any (MatchesUnnegated fold text)) (sym is) (any_after (MatchesUnnegated fold text) pattern ps after))
        ];
        not_refused = λ refusal. elim (any_cases (MatchesNegated fold text) pattern ps (subst (Any (MatchesNegated fold text)) is refusal)) [
          | inl here ↦ kept here
          | inr after ↦ still.not_refused after
        ];
        short = subst (All IsShortPattern) (sym is) (All-cons IsShortPattern pattern ps short still.short);
      },
    )
