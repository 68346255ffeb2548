-- Which commas of a text are quoted, and the items between the others.
use Rattle.std.proofs.Common.{◌≡◌, ◌≢◌, ℕ, zero, suc, ◌<◌, ◌+◌, List, [], ◌∷◌, length, take, drop, Bool, true, false, not, ◌&&◌, ◌==◌, count_by, sym, ap, ◌∙◌, refl, arith, add-one, Some, None, slice_index, slice_range, ◌-◌, get_or-drop, inl, inr, take-add, eqb-true, eq-eqb, ne_eqb, cond}
use Rattle.std.proofs.lemmas.Bool.{and_parts, not-true, cases_lt}
use Rattle.std.proofs.lemmas.List.Sums.{count_by_more_yes, count_by_more_no, sum_by-append}
use Rattle.sshkey_entries.specs.Items.{is_comma, is_quote, is_odd, is_quoted, is_divider, items, without_empty_last}
use Rattle.sshkey_authorized_keys.specs.Options.{FindsDivider}
use Rattle.sshkey_entries.proofs.Cuts.{cuts, cuts_same, cuts_none, cuts_first, some_cuts, pieces_cuts}
use Rattle.sshkey_entries.proofs.PatternLists.{kept_first, kept_last}

pub quoted_first : (text : List ℕ) → is_quoted text 0 ≡ false
unfolding is_quoted is_odd
quoted_first text = refl

-- a quote ends or begins a quotation
pub quoted_other : (text : List ℕ) (i : ℕ) → i < length text → slice_index text i ≡ 0x22 → is_quoted text (i + 1) ≡ not (is_quoted text i)
unfolding is_quoted is_odd
quoted_other text i l e = ap is_odd (count_by_more_yes is_quote text i 0 l (eq-eqb _ 0x22 e) ∙ add-one _)

pub quoted_same : (text : List ℕ) (i : ℕ) → i < length text → slice_index text i ≢ 0x22 → is_quoted text (i + 1) ≡ is_quoted text i
unfolding is_quoted
quoted_same text i l ne = ap is_odd (count_by_more_no is_quote text i 0 l (ne_eqb _ 0x22 ne))

odd_sum : (a b : ℕ) → is_odd a ≡ false → is_odd (a + b) ≡ is_odd b
unfolding is_odd
odd_sum a zero even = let e : a + 0 ≡ a = omega arith in ap is_odd e ∙ even
odd_sum a (suc b) even = let e : a + suc b ≡ suc (a + b) = omega arith in ap is_odd e ∙ ap not (odd_sum a b even)

abbrev at : List ℕ → ℕ → Bool
at text k = is_divider text (k, slice_index text k)

pub divides_not : (text : List ℕ) (i : ℕ) → (slice_index text i ≡ 0x2c → is_quoted text i ≡ false → ⊥) → is_divider text (i, slice_index text i) ≡ false
divides_not text i none = by_case (is_comma (slice_index text i)) refl (is_quoted text i) refl
  where
    by_case : (b : Bool) → is_comma (slice_index text i) ≡ b → (q : Bool) → is_quoted text i ≡ q → is_divider text (i, slice_index text i) ≡ false
    by_case false c q d = ap (λ (x : Bool). x && not (is_quoted text i)) c
    by_case true c true d = (λ j. c j && not (d j))
    by_case true c false d = absurd (none (eqb-true _ 0x2c c) d)

-- After a divider quotation begins anew.
after_divider : (text : List ℕ) (i k : ℕ) → i < length text → at text i ≡ true → at text (i + 1 + k) ≡ at (drop (i + 1) text) k
unfolding is_quoted
after_divider text i k l divider =
    let parts = and_parts _ _ divider in
    let comma : slice_index text i ≡ 0x2c = eqb-true _ 0x2c parts.0 in
    let even : is_quoted text (i + 1) ≡ false = quoted_same text i l (λ e. cc (sym comma ∙ e)) ∙ not-true _ parts.1 in
    let here : slice_index text (i + 1 + k) ≡ slice_index (drop (i + 1) text) k = sym (get_or-drop (i + 1) text k 0) in
    let quoted : is_quoted text (i + 1 + k) ≡ is_quoted (drop (i + 1) text) k
    = ap (λ (u : List ℕ). is_odd (count_by is_quote u)) (take-add (i + 1) k text)
    ∙ ap is_odd (sum_by-append (λ c. cond (is_quote c) 1 0) (take (i + 1) text) (take k (drop (i + 1) text)))
    ∙ odd_sum (count_by is_quote (take (i + 1) text)) (count_by is_quote (take k (drop (i + 1) text))) even in
    λ j. is_comma (here j) && not (quoted j)

items_cuts : (text : List ℕ) → items text ≡ without_empty_last (cuts (at text) text)
unfolding items
items_cuts text = ap without_empty_last (pieces_cuts (is_divider text) 0 text ∙ cuts_same _ _ text (λ k l. let e : 0 + k ≡ k = omega arith in ap (λ (n : ℕ). is_divider text (n, slice_index text k)) e))

pub no_items : items [] ≡ []
unfolding items
no_items = refl

-- up to the first divider, and after it
pub items_first : (text : List ℕ) (i : ℕ) → FindsDivider text (Some i) → items text ≡ take i text ∷ items (drop (i + 1) text)
items_first text i h =
    items_cuts text
    ∙ ap without_empty_last (cuts_first (at text) i text h.0 h.1 h.2)
    ∙ kept_first (take i text) _ (some_cuts _ (drop (i + 1) text))
    ∙ ap (λ (l : List (List ℕ)). take i text ∷ without_empty_last l) (cuts_same _ _ (drop (i + 1) text) (λ k _. after_divider text i k h.0 h.1))
    ∙ ap (λ (l : List (List ℕ)). take i text ∷ l) (sym (items_cuts (drop (i + 1) text)))

-- no divider: the text is the one item
pub items_last : (text : List ℕ) → FindsDivider text None → 0 < length text → items text ≡ text ∷ items []
items_last text h some = items_cuts text ∙ ap without_empty_last (cuts_none (at text) text h) ∙ kept_last text some ∙ ap (λ (l : List (List ℕ)). text ∷ l) (sym no_items)

-- one place more
pub none_more : (text : List ℕ) (i : ℕ) → ((k : ℕ) → k < i → is_divider text (k, slice_index text k) ≡ false) → is_divider text (i, slice_index text i) ≡ false
    → (k : ℕ) → k < i + 1 → is_divider text (k, slice_index text k) ≡ false
none_more text i before here k l = elim (cases_lt k i) [
  | inl less ↦ before k less
  | inr same ↦ let e : k ≡ i = omega arith in ap (at text) e ∙ here
]

-- a range from the first place
pub whole_front : (i : ℕ) (text : List ℕ) → slice_range text 0 i ≡ take i text
whole_front i text = let e : i - 0 ≡ i = omega arith in ap (λ (n : ℕ). take n text) e

-- an empty text has no items
pub none_left : (text : List ℕ) (empty : Bool) → empty ≡ (length text == 0) → empty ≡ true → items text ≡ []
none_left [] empty judged e = no_items
none_left (c ∷ text) empty judged e = let zero : length (c ∷ text) ≡ 0 = eqb-true _ 0 (sym judged ∙ e) in absurd (omega arith)
