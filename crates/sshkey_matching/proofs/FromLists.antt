-- A piece with a `!` in front, and one without.
use Rattle.std.proofs.Common.{◌≡◌, ◌≢◌, ◌↔◌, ℕ, List, [], ◌∷◌, Bool, false, IsTrue, slice_index, cond, ap, sym, subst, refl, ne_eqb, ◌⊎◌, zero, suc, ◌<◌, length, slice_index_or, true, Bor, None, Some, inl, inr, ◌∙◌, arith, ◌||◌}
use Rattle.sshkey_matching.specs.Patterns.{exclamation_mark, unmarked, is_comma}
use Rattle.sshkey_matching.specs.FromLists.{Client, IsFor, IsFromPattern, IsFromPiece, Names, Refuses, LetsFrom}
use Rattle.std.specs.List.{All, Any, slice_split}
use Rattle.std.proofs.lemmas.List.Elements.{All-nil, All-cons, All-head, All-tail, All-from_get_or}
use Rattle.std.proofs.lemmas.List.Splits.{slice_split_none, slice_split_first}
use Rattle.std.proofs.lemmas.Str.Pattern.{IsSplitOnceResult, split_parts, split_once_first}
use Rattle.sshkey_matching.specs.SourceAddresses.{pieces}

pub unmarked_same : (t : List ℕ) → slice_index t 0 ≢ exclamation_mark → t ≡ unmarked t
unmarked_same [] h = refl
unmarked_same (c ∷ t) h = ap (λ b. cond b t (c ∷ t)) (sym (ne_eqb c 33 h))

module _ (c : Client) (piece pattern : List ℕ) (is_for : Bool) (is : pattern ≡ unmarked piece) (form : IsFromPattern pattern) (judged : IsTrue is_for ↔ IsFor c pattern) where
  pub with_mark : slice_index piece 0 ≡ exclamation_mark → IsFromPiece piece × (IsTrue false ↔ Names c piece) × (IsTrue is_for ↔ Refuses c piece)
  with_mark mark = (
    subst IsFromPattern is form,
    (λ never. absurd cc, λ n. absurd (n.0 mark)),
    (λ yes. (mark, subst (IsFor c) is (judged.0 yes)), λ r. judged.1 (subst (IsFor c) (sym is) r.1)),
  )

  pub without_mark : slice_index piece 0 ≢ exclamation_mark → IsFromPiece piece × (IsTrue is_for ↔ Names c piece) × (IsTrue false ↔ Refuses c piece)
  without_mark mark =
      let same = unmarked_same piece mark in (
        subst IsFromPattern is form,
        (λ yes. (mark, subst (IsFor c) (sym same) (subst (IsFor c) is (judged.0 yes))), λ n. judged.1 (subst (IsFor c) (sym is) (subst (IsFor c) same n.1))),
        (λ never. absurd cc, λ r. absurd (mark r.0)),
      )

-- A list, one piece after the other.

-- ---- the first piece

pub first_piece : (list : List ℕ) (piece rest : Bor (List ℕ)) → IsSplitOnceResult 0x2c list (Some (piece, rest)) → pieces list ≡ piece.now ∷ pieces rest.now
first_piece list piece rest cut =
    let at = split_once_first 0x2c list (Some (piece, rest)) cut (omega arith) in
    slice_split_first is_comma list 0 at.0 ∙ (λ j. sym at.1 j ∷ slice_split is_comma (sym at.2 j))

pub only_piece : (list : List ℕ) → IsSplitOnceResult 0x2c list None → pieces list ≡ list ∷ []
only_piece list none = slice_split_none is_comma list (All-from_get_or (λ c. is_comma c ≡ false) list 0 (λ k l. ne_eqb _ 0x2c (split_parts 0x2c list None none (omega arith) k l)))

-- ---- one of a list

module _ {X : Type 0} (P : X → Type 0) (x : X) (xs : List X) where
  pub any_here : P x → Any P (x ∷ xs)
  any_here p = (0, x, omega arith, refl, p)

  pub any_after : Any P xs → Any P (x ∷ xs)
  any_after a = (suc a.0, a.1, omega (arith, a.2), a.3, a.4)

  at_place : (k : ℕ) (y : X) → k < length (x ∷ xs) → slice_index_or (x ∷ xs) k y ≡ y → P y → P x ⊎ Any P xs
  at_place zero y l e p = inl (subst P (sym e) p)
  at_place (suc k) y l e p = inr (k, y, omega (arith, l), e, p)

  pub any_cases : Any P (x ∷ xs) → P x ⊎ Any P xs
  any_cases a = at_place a.0 a.1 a.2 a.3 a.4

pub no_any : {X : Type 0} (P : X → Type 0) → Any P [] → ⊥
no_any P a = omega (arith, a.2)

-- ---- what was found so far

-- One was found before, or is among these.
abbrev pub IsFoundOrIn : {X : Type 0} → (X → Type 0) → Bool → List X → Type 0
IsFoundOrIn P found xs = IsTrue found ⊎ Any P xs

or_found : (found here : Bool) → IsTrue found ⊎ IsTrue here → IsTrue (found || here)
or_found true here e = refl
or_found false true e = refl
or_found false false (inl e) = e
or_found false false (inr e) = e

either_found : (found here : Bool) → IsTrue (found || here) → IsTrue found ⊎ IsTrue here
either_found true here e = inl refl
either_found false here e = inr e

module _ {X : Type 0} (P : X → Type 0) (found here : Bool) (x : X) (all xs : List X) (is : all ≡ x ∷ xs) (judged : IsTrue here ↔ P x) where
  pub one_less : IsFoundOrIn P found all ↔ IsFoundOrIn P (found || here) xs
  one_less = (
    λ h. elim h [
      | inl before ↦ inl (or_found found here (inl before))
      | inr some ↦ elim (any_cases P x xs (subst (Any P) is some)) [
        | inl p ↦ inl (or_found found here (inr (judged.1 p)))
        | inr after ↦ inr after
      ]
    ],
    λ h. elim h [
      | inl now ↦ elim (either_found found here now) [
        | inl before ↦ inl before
        | inr p ↦ inr (subst (Any P) (sym is) (any_here P x xs (judged.0 p)))
      ]
      | inr after ↦ inr (subst (Any P) (sym is) (any_after P x xs after))
    ],
  )

pub at_last : {X : Type 0} (P : X → Type 0) (found : Bool) → IsFoundOrIn P found [] ↔ IsTrue found
at_last P found = (λ h. elim h [ inl e ↦ e | inr some ↦ absurd (no_any P some) ], λ e. inl e)

-- ---- what holds of all of them

module _ {X : Type 0} (P : X → Type 0) (x : X) (all xs : List X) (is : all ≡ x ∷ xs) where
  pub all_less : P x → All P all ↔ All P xs
  all_less p = (λ h. All-tail P x xs (subst (All P) is h), λ h. subst (All P) (sym is) (All-cons P x xs p h))

  pub not_all : (P x → ⊥) → All P all → ⊥
  not_all other h = other (All-head P x xs (subst (All P) is h))

-- ---- the last of them

module _ {X : Type 0} (P : X → Type 0) (x : X) (all : List X) (is : all ≡ x ∷ []) where
  pub found_last : (found here : Bool) → (IsTrue here ↔ P x) → IsFoundOrIn P found all ↔ IsTrue (found || here)
  found_last found here judged =
      let less = one_less P found here x all [] is judged in
      let last = at_last P (found || here) in
      (λ h. last.0 (less.0 h), λ e. less.1 (last.1 e))

  pub all_last : P x → All P all
  all_last p = (all_less P x all [] is p).1 (All-nil P)

-- Whom a list lets in, at its last piece.

pub lets_from : (c : Client) (list piece : List ℕ) (left : List (List ℕ)) (named refused names refuses lets : Bool) → left ≡ piece ∷ [] → (Any (Names c) (pieces list) ↔ IsFoundOrIn (Names c) named left) → (Any (Refuses c) (pieces list) ↔ IsFoundOrIn (Refuses c) refused left) → (IsTrue names ↔ Names c piece) → (IsTrue refuses ↔ Refuses c piece) → (IsTrue lets ↔ (IsTrue (named || names) × (IsTrue (refused || refuses) → ⊥))) → IsTrue lets ↔ LetsFrom list c
lets_from c list piece left named refused names refuses lets is was_named was_refused judged_names judged_refuses judged =
    let n = found_last (Names c) piece left is named names judged_names in
    let r = found_last (Refuses c) piece left is refused refuses judged_refuses in (
      λ y. let both = judged.0 y in record { named = was_named.1 (n.1 both.0); unrefused = λ a. both.1 (r.0 (was_refused.0 a)) },
      λ f. judged.1 (n.0 (was_named.0 f.named), λ e. f.unrefused (was_refused.1 (r.1 e))),
    )
