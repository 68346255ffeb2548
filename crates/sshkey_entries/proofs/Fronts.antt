-- What is left out at the front of a text, and words, which some character or the end ends. The
-- tests are of one character.
use Rattle.std.proofs.Common.{◌≡◌, ◌⊎◌, ℕ, zero, suc, ◌<◌, ◌≤◌, ◌+◌, List, [], ◌∷◌, ◌++◌, length, get_or, take, drop, slice_index, Bool, true, false, not, cond, None, Some, position, refl, sym, ap, subst, ◌∙◌, arith, inl, inr, lt-ltb, take-append-drop, append-nil}
use Rattle.std.proofs.lemmas.Bool.{cases_lt, not-false, not-true}
use Rattle.std.proofs.lemmas.List.{get_or-take, get_or-drop, length-take-le}
use Rattle.std.proofs.lemmas.List.Quantifiers.{position-Some}
use Rattle.std.proofs.lemmas.List.Sums.{fails_before_first}
use Rattle.std.proofs.lemmas.Str.{IsCharBoundary-start, IsCharBoundary-before_ascii, IsCharBoundary-after_ascii}
use Rattle.std.specs.List.{position_or_len}
use Rattle.std.specs.Prelude.{EachIndex}
use Rattle.std.specs.Str.{IsUtf8, IsCharBoundary}
use Rattle.sshkey_entries.specs.Fields.{without_front}

no_place : (p : ℕ → Bool) (xs : List ℕ) → position p xs ≡ None → (k : ℕ) → k < length xs → p (get_or xs k 0) ≡ false
no_place p xs none k l = elim (cases_lt (position_or_len p xs) (length xs)) [
  | inl less ↦ cc (sym none ∙ ap (λ (b : Bool). cond b (Some (position_or_len p xs)) None) (lt-ltb _ _ less))
  | inr above ↦ fails_before_first p xs k 0 (omega (arith, l, above))
]

-- ---- the front

module _ (is : ℕ → Bool) where
  pub skipped : (c : ℕ) (text : List ℕ) → is c ≡ true → without_front is (c ∷ text) ≡ without_front is text
  unfolding without_front
  skipped c text e = ap (λ (b : Bool). cond b (without_front is text) (c ∷ text)) e

  pub stays : (c : ℕ) (text : List ℕ) → is c ≡ false → without_front is (c ∷ text) ≡ c ∷ text
  unfolding without_front
  stays c text e = ap (λ (b : Bool). cond b (without_front is text) (c ∷ text)) e

  pub nothing_stays : without_front is [] ≡ []
  unfolding without_front
  nothing_stays = refl

  all_stays : (text : List ℕ) → is (slice_index text 0) ≡ false → without_front is text ≡ text
  all_stays [] e = nothing_stays
  all_stays (c ∷ text) e = stays c text e

  -- `n` are left out, and then a text is left that none begins
  so_many : (n : ℕ) (text : List ℕ) → ((i : ℕ) → i < n → is (slice_index text i) ≡ true) → is (slice_index text n) ≡ false → without_front is text ≡ drop n text
  so_many zero text before here = all_stays text here
  so_many (suc n) [] before here = nothing_stays
  so_many (suc n) (c ∷ text) before here = skipped c text (before 0 (omega arith)) ∙ so_many n text (λ i l. before (suc i) (omega (arith, l))) here

  all_skipped : (text : List ℕ) → EachIndex text (λ i. is (slice_index text i) ≡ true) → without_front is text ≡ []
  all_skipped [] h = nothing_stays
  all_skipped (c ∷ text) h = skipped c text (h 0 (omega arith)) ∙ all_skipped text (λ i l. h (suc i) (omega (arith, l)))

  -- ---- found by its place

  place_is : (text : List ℕ) (n : ℕ) → Some n ≡ position (λ c. not (is c)) text → (n < length text) × ((k : ℕ) → k < n → is (slice_index text k) ≡ true) × (is (slice_index text n) ≡ false)
  place_is text n found =
      let place = position-Some (λ c. not (is c)) text n 0 (sym found) in
      (place.0, λ k l. not-false _ (place.2 k l), not-true _ place.1)

  pub left_from : (text : List ℕ) (n : ℕ) → Some n ≡ position (λ c. not (is c)) text → without_front is text ≡ drop n text
  left_from text n found = let place = place_is text n found in so_many n text place.1 place.2

  pub nothing_left : (text : List ℕ) → None ≡ position (λ c. not (is c)) text → without_front is text ≡ []
  nothing_left text none = all_skipped text (λ k l. not-false _ (no_place (λ c. not (is c)) text (sym none) k l))

  module _ (ascii : (c : ℕ) → is c ≡ true → c < 128) where
    after : (text : List ℕ) (n : ℕ) → IsUtf8 text → n ≤ length text → ((k : ℕ) → k < n → is (slice_index text k) ≡ true) → IsCharBoundary text n
    after text zero utf8 l h = IsCharBoundary-start text utf8
    after text (suc n) utf8 l h =
        let one : n + 1 ≡ suc n = omega arith in
        subst (IsCharBoundary text) one (IsCharBoundary-after_ascii text n utf8 (omega (arith, l)) (ascii (slice_index text n) (h n (omega arith))))

    pub left_place : (text : List ℕ) (n : ℕ) → IsUtf8 text → Some n ≡ position (λ c. not (is c)) text → IsCharBoundary text n
    left_place text n utf8 found = let place = place_is text n found in after text n utf8 (omega (arith, place.0)) place.1

-- ---- words

module _ (ends : ℕ → Bool) where
  -- a word, and what follows it
  abbrev pub IsCut : List ℕ → List ℕ → List ℕ → Type 0
  IsCut text word rest = (text ≡ word ++ rest) × EachIndex word (λ i. ends (slice_index word i) ≡ false) × ((rest ≡ []) ⊎ (ends (slice_index rest 0) ≡ true))

  pub cut_at : (text word rest : List ℕ) (n : ℕ) → Some n ≡ position ends text → word ≡ take n text → rest ≡ drop n text → IsCut text word rest
  cut_at text word rest n found first last =
      let place = position-Some ends text n 0 (sym found) in
      let same_place : n + 0 ≡ n = omega arith in
      let size : length (take n text) ≡ n = length-take-le n text (omega (arith, place.0)) in (
        sym (take-append-drop n text) ∙ (λ j. sym first j ++ sym last j),
        λ i l. let less : i < n = omega (arith, l, ap length first, size) in
            ap (λ (t : List ℕ). ends (slice_index t i)) first ∙ ap ends (get_or-take n text i 0 less) ∙ place.2 i less,
        inr (ap (λ (t : List ℕ). ends (slice_index t 0)) last ∙ ap ends (get_or-drop n text 0 0) ∙ ap (λ (k : ℕ). ends (slice_index text k)) same_place ∙ place.1),
      )

  pub uncut : (text : List ℕ) → None ≡ position ends text → IsCut text text []
  uncut text none = (sym (append-nil text), λ i l. no_place ends text (sym none) i l, inl refl)

  pub end_place : (text : List ℕ) (n : ℕ) → ((c : ℕ) → ends c ≡ true → c < 128) → Some n ≡ position ends text → IsCharBoundary text n
  end_place text n ascii found =
      let place = position-Some ends text n 0 (sym found) in
      IsCharBoundary-before_ascii text n place.0 (ascii (slice_index text n) place.1)

-- one text begins with one word
module _ (test : ℕ → Bool) (inner outer : Bool) (apart : inner ≡ outer → ⊥) where
  abbrev IsWord : List ℕ → Type 0
  IsWord text = EachIndex text (λ i. test (slice_index text i) ≡ inner)

  abbrev EndsWord : List ℕ → Type 0
  EndsWord text = (text ≡ []) ⊎ (test (slice_index text 0) ≡ outer)

  later : (c : ℕ) (text : List ℕ) → IsWord (c ∷ text) → IsWord text
  later c text h i l = h (suc i) (omega (arith, l))

  -- no word goes on where one ends
  no_word : (c : ℕ) (text rest : List ℕ) → IsWord (c ∷ text) → EndsWord ((c ∷ text) ++ rest) → ⊥
  no_word c text rest h (inl none) = absurd (omega (arith, ap length none))
  no_word c text rest h (inr other) = apart (sym (h 0 (omega arith)) ∙ other)

  pub same_word : (a b r s : List ℕ) → IsWord a → IsWord b → EndsWord r → EndsWord s → a ++ r ≡ b ++ s → (a ≡ b) × (r ≡ s)
  same_word [] [] r s _ _ _ _ e = (refl, e)
  same_word [] (y ∷ b) r s _ k m _ e = absurd (no_word y b s k (subst EndsWord e m))
  same_word (x ∷ a) [] r s h _ _ n e = absurd (no_word x a r h (subst EndsWord (sym e) n))
  same_word (x ∷ a) (y ∷ b) r s h k m n e =
      let here : x ≡ y = cc e in
      let rest : a ++ r ≡ b ++ s = cc e in
      let more = same_word a b r s (later x a h) (later y b k) m n rest in
      (ap (λ (c : ℕ). c ∷ a) here ∙ ap (λ (l : List ℕ). y ∷ l) more.0, more.1)
