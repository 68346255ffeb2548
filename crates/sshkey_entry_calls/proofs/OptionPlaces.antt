-- Where the option at a place begins and ends.
use Rattle.std.proofs.Common.{◌≡◌, ◌≤◌, ◌<◌, ◌+◌, ◌-◌, ◌&&◌, ◌==◌, ℕ, zero, suc, List, [], ◌∷◌, ◌++◌, length, take, drop, slice_index, Bool, true, false, not, cond, nat_lt, lt-ltb, Option, None, Some, refl, sym, ap, subst, ◌∙◌, arith, tests, inl, inr, append_assoc, append-nil, take-append-drop, length-append}
use Rattle.std.proofs.lemmas.Bool.{cases_lt}
use Rattle.std.proofs.lemmas.List.{get_or-append-add, get_or_append_left, get_or-drop, get_or-take, length-drop, nil_from_length}
use Rattle.std.proofs.Math.ListN.{drop_of_length-le}
use Rattle.std.proofs.Math.Seq.{drop-append_seam, take-append_seam}
use Rattle.sshkey_entries.specs.Items.{is_comma, is_quote}
use Rattle.sshkey_entries.specs.Fields.{is_inside, is_plain_quote}
use Rattle.sshkey_entries.specs.OptionItems.{AreNameCharacters, EndsOption, IsOptionAt, IsQuoted, IsValueAt, KeyOption, equals_sign, is_name_character, quote, without_commas}
use Rattle.sshkey_entries.proofs.Fronts.{nothing_stays, skipped, stays}
use Rattle.sshkey_entries.proofs.OptionItems.{quote_front, inside_first, inside_more}
use Rattle.sshkey_entry_calls.specs.Options.{EndsAt}

-- ---- one end

pub one_end : (text : List ℕ) (p q : ℕ) → EndsAt text p → EndsAt text q → p ≡ q
one_end text p q a b = elim (cases_lt p q) [
  | inl less ↦ let here = a.ends (omega (arith, less, b.within)) in cc (sym here.1 ∙ b.first p less here.0)
  | inr above ↦ elim (cases_lt q p) [
    | inl less ↦ let here = b.ends (omega (arith, less, a.within)) in cc (sym here.1 ∙ a.first q less here.0)
    | inr below ↦ omega (arith, above, below)
  ]
]

-- Each comma before the place is inside quotes.
abbrev pub NoEndBefore : List ℕ → ℕ → Type 0
NoEndBefore text n = (i : ℕ) → i < n → is_comma (slice_index text i) ≡ true → is_inside text i ≡ true

pub none_more : (text : List ℕ) (n : ℕ) → NoEndBefore text n → (is_comma (slice_index text n) ≡ true → is_inside text n ≡ true) → NoEndBefore text (n + 1)
none_more text n before here i l comma = elim (cases_lt i n) [
  | inl less ↦ before i less comma
  | inr above ↦
      let e : n ≡ i = omega (arith, l, above) in
      subst (λ (k : ℕ). is_inside text k ≡ true) e (here (ap (λ (k : ℕ). is_comma (slice_index text k)) e ∙ comma))
]

-- ---- places inside quotes

-- from one place to another that has no plain quote before it
same_inside : (text : List ℕ) (from n : ℕ) → ((i : ℕ) → i < n → is_plain_quote text (from + i) ≡ false) → is_inside text (from + n) ≡ is_inside text from
same_inside text from zero none = let e : from + 0 ≡ from = omega arith in ap (is_inside text) e
same_inside text from (suc n) none =
    let e : from + suc n ≡ (from + n) + 1 = omega arith in
    ap (is_inside text) e ∙ inside_more text (from + n)
    ∙ ap (λ (b : Bool). cond b (not (is_inside text (from + n))) (is_inside text (from + n))) (none n (omega arith))
    ∙ same_inside text from n (λ i l. none i (omega (arith, l)))

-- a character that is no quote
not_quote : (text : List ℕ) (i c : ℕ) → slice_index text i ≡ c → is_quote c ≡ false → is_plain_quote text i ≡ false
not_quote text i c is other = ap (λ (d : ℕ). is_quote d && not (nat_lt 0 i && slice_index text (i - 1) == 0x5c)) is ∙ ap (λ (b : Bool). b && not (nat_lt 0 i && slice_index text (i - 1) == 0x5c)) other

name_quote : (c : ℕ) → is_name_character c ≡ true → is_quote c ≡ false
name_quote c is = grind (arith, tests)

name_comma : (c : ℕ) → is_name_character c ≡ true → is_comma c ≡ true → ⊥
name_comma c is comma = grind (arith, tests)

-- what stands after a character that is no backslash has its own plain quotes
quote_later : (front text : List ℕ) (c i : ℕ) → (c == 0x5c) ≡ false → is_plain_quote (front ++ (c ∷ text)) (length front + suc i) ≡ is_plain_quote text i
quote_later front text c zero other =
    let some : nat_lt 0 (length front + 1) ≡ true = lt-ltb 0 (length front + 1) (omega arith) in
    let here : slice_index (front ++ (c ∷ text)) (length front + 1) ≡ slice_index text 0 = get_or-append-add front (c ∷ text) 1 0 in
    let place : length front + 1 - 1 ≡ length front + 0 = omega arith in
    let before : slice_index (front ++ (c ∷ text)) (length front + 1 - 1) ≡ c = ap (slice_index (front ++ (c ∷ text))) place ∙ get_or-append-add front (c ∷ text) 0 0 in
    (λ j. is_quote (here j) && not (some j && before j == 0x5c)) ∙ ap (λ (b : Bool). is_quote (slice_index text 0) && not b) other
quote_later front text c (suc i) other =
    let some : nat_lt 0 (length front + suc (suc i)) ≡ nat_lt 0 (suc i) = lt-ltb 0 (length front + suc (suc i)) (omega arith) ∙ sym (lt-ltb 0 (suc i) (omega arith)) in
    let here : slice_index (front ++ (c ∷ text)) (length front + suc (suc i)) ≡ slice_index text (suc i) = get_or-append-add front (c ∷ text) (suc (suc i)) 0 in
    let place : length front + suc (suc i) - 1 ≡ length front + suc i = omega arith in
    let same : i ≡ suc i - 1 = omega arith in
    let before : slice_index (front ++ (c ∷ text)) (length front + suc (suc i) - 1) ≡ slice_index text (suc i - 1)
    = ap (slice_index (front ++ (c ∷ text))) place ∙ get_or-append-add front (c ∷ text) (suc i) 0 ∙ ap (slice_index text) same in
    λ j. is_quote (here j) && not (some j && before j == 0x5c)

-- ---- where an option ends

module _ (name after : List ℕ) (are : AreNameCharacters name) where
  in_name : (i : ℕ) → i < length name → slice_index (name ++ after) i ≡ slice_index name i
  in_name i l = get_or_append_left name after 0 i l

  no_comma : (i : ℕ) → i < length name → is_comma (slice_index (name ++ after) i) ≡ true → ⊥
  no_comma i l comma = name_comma (slice_index name i) (are i l) (ap is_comma (sym (in_name i l)) ∙ comma)

  no_plain_quote : (i : ℕ) → i < length name → is_plain_quote (name ++ after) (0 + i) ≡ false
  no_plain_quote i l =
      let e : 0 + i ≡ i = omega arith in
      ap (is_plain_quote (name ++ after)) e ∙ not_quote (name ++ after) i (slice_index name i) (in_name i l) (name_quote (slice_index name i) (are i l))

  name_outside : is_inside (name ++ after) (length name) ≡ false
  name_outside =
      let e : 0 + length name ≡ length name = omega arith in
      sym (ap (is_inside (name ++ after)) e) ∙ same_inside (name ++ after) 0 (length name) no_plain_quote ∙ inside_first (name ++ after)

-- without a value
name_ends : (name rest : List ℕ) → AreNameCharacters name → EndsOption rest → EndsAt (name ++ rest) (length name)
name_ends name rest are ends = record {
  within = omega (arith, length-append name rest);
  ends = λ l. (comma ends l, name_outside name rest are);
  first = λ i l here. absurd (no_comma name rest are i l here);
}
  where
    comma : EndsOption rest → length name < length (name ++ rest) → is_comma (slice_index (name ++ rest) (length name)) ≡ true
    comma (inl none) l = absurd (omega (arith, l, length-append name rest, ap length none))
    comma (inr is) l = ap is_comma (let e : length name ≡ length name + 0 = omega arith in ap (slice_index (name ++ rest)) e ∙ get_or-append-add name rest 0 0) ∙ is

-- with one
module _ (name quoted rest : List ℕ) (are : AreNameCharacters name) (is : IsQuoted quoted) where
  abbrev opens : List ℕ
  opens = quote ∷ (quoted ++ (quote ∷ rest))

  abbrev all : List ℕ
  all = name ++ (equals_sign ∷ opens)

  from_quote : all ≡ (name ++ (equals_sign ∷ [])) ++ opens
  from_quote = sym (append_assoc name (equals_sign ∷ []) opens)

  size : length (name ++ (equals_sign ∷ [])) ≡ length name + 1
  size = length-append name (equals_sign ∷ [])

  at_name : slice_index all (length name) ≡ equals_sign
  at_name = let e : length name ≡ length name + 0 = omega arith in ap (slice_index all) e ∙ get_or-append-add name (equals_sign ∷ opens) 0 0

  at_quote : slice_index all (length name + 1) ≡ quote
  at_quote = get_or-append-add name (equals_sign ∷ opens) 1 0

  inside_value : is_inside all (length name + 2) ≡ true
  inside_value =
      let e : length name + 2 ≡ (length name + 1) + 1 = omega arith in
      let before : is_inside all (length name + 1) ≡ false = inside_more all (length name) ∙ (λ j. cond (not_quote all (length name) equals_sign at_name refl j) (not (name_outside name (equals_sign ∷ opens) are j)) (name_outside name (equals_sign ∷ opens) are j)) in
      ap (is_inside all) e ∙ inside_more all (length name + 1)
      ∙ (λ j. cond (quote_later name opens equals_sign 0 refl j) (not (before j)) (before j))

  -- the plain quotes of the value are those of all
  value_quote : (i : ℕ) → is_plain_quote all ((length name + 2) + i) ≡ is_plain_quote (quoted ++ (quote ∷ rest)) i
  value_quote i =
      let e : (length name + 2) + i ≡ length (name ++ (equals_sign ∷ [])) + suc i = omega (arith, size) in
      (λ j. is_plain_quote (from_quote j) (e j)) ∙ quote_later (name ++ (equals_sign ∷ [])) (quoted ++ (quote ∷ rest)) quote i refl

  value_inside : (i : ℕ) → i ≤ length quoted → is_inside all ((length name + 2) + i) ≡ true
  value_inside i l = same_inside all (length name + 2) i (λ k less. value_quote k ∙ quote_front quoted (quote ∷ rest) k (omega (arith, l, less)) ∙ is.inner k (omega (arith, l, less))) ∙ inside_value

  last_quote : is_plain_quote (quoted ++ (quote ∷ rest)) (length quoted) ≡ true
  last_quote =
      ap (λ (t : List ℕ). is_plain_quote t (length quoted)) (sym (append_assoc quoted (quote ∷ []) rest))
      ∙ quote_front (quoted ++ (quote ∷ [])) rest (length quoted) (omega (arith, length-append quoted (quote ∷ [])))
      ∙ is.ends

  abbrev end_ : ℕ
  end_ = ((length name + 2) + length quoted) + 1

  outside_again : is_inside all end_ ≡ false
  outside_again = inside_more all ((length name + 2) + length quoted) ∙ (λ j. cond ((value_quote (length quoted) ∙ last_quote) j) (not (value_inside (length quoted) (omega arith) j)) (value_inside (length quoted) (omega arith) j))

  abbrev whole : List ℕ
  whole = name ++ (equals_sign ∷ quote ∷ (quoted ++ (quote ∷ [])))

  whole_size : length whole ≡ end_
  whole_size = omega (arith, length-append name (equals_sign ∷ quote ∷ (quoted ++ (quote ∷ []))), length-append quoted (quote ∷ []))

  before_rest : all ≡ whole ++ rest
  before_rest =
      sym (append_assoc name (equals_sign ∷ quote ∷ (quoted ++ (quote ∷ []))) rest
      ∙ ap (λ (t : List ℕ). name ++ (equals_sign ∷ quote ∷ t)) (append_assoc quoted (quote ∷ []) rest))

  value_ends : EndsOption rest → EndsAt all (length whole)
  value_ends ends = record {
    within = omega (arith, ap length before_rest, length-append whole rest);
    ends = λ l. (comma ends l, ap (is_inside all) whole_size ∙ outside_again);
    first = first;
  }
    where
      comma : EndsOption rest → length whole < length all → is_comma (slice_index all (length whole)) ≡ true
      comma (inl none) l = absurd (omega (arith, l, ap length before_rest, length-append whole rest, ap length none))
      comma (inr here) l = ap is_comma (let e : length whole ≡ length whole + 0 = omega arith in (λ j. slice_index (before_rest j) (e j)) ∙ get_or-append-add whole rest 0 0) ∙ here

      after_name : (k : ℕ) → k < 2 → is_comma (slice_index all (length name + k)) ≡ true → ⊥
      after_name zero _ here = let e : length name + 0 ≡ length name = omega arith in cc (sym here ∙ ap is_comma (ap (slice_index all) e ∙ at_name))
      after_name (suc zero) _ here = cc (sym here ∙ ap is_comma at_quote)
      after_name (suc (suc k)) l here = absurd (omega (arith, l))

      first : (i : ℕ) → i < length whole → is_comma (slice_index all i) ≡ true → is_inside all i ≡ true
      first i l here = elim (cases_lt i (length name)) [
        | inl less ↦ absurd (no_comma name (equals_sign ∷ opens) are i less here)
        | inr above ↦ elim (cases_lt i (length name + 2)) [
          | inl less ↦
              let e : i ≡ length name + (i - length name) = omega (arith, above) in
              absurd (after_name (i - length name) (omega (arith, less, above)) (ap (λ (n : ℕ). is_comma (slice_index all n)) (sym e) ∙ here))
          | inr after ↦
              let e : i ≡ (length name + 2) + (i - (length name + 2)) = omega (arith, after) in
              ap (is_inside all) e ∙ value_inside (i - (length name + 2)) (omega (arith, l, whole_size, after))
        ]
      ]

-- ---- an option, and what follows it

-- An option alone, and where it ends in the text.
pub record Cut (text : List ℕ) (o : KeyOption) (rest : List ℕ) : Type 0 where
  pub front : List ℕ
  pub is : text ≡ front ++ rest
  pub alone : IsOptionAt front o []
  pub ends : EndsAt text (length front)

cut_by : (name after rest : List ℕ) (v : Option (List ℕ)) → 0 < length name → AreNameCharacters name → IsValueAt after v rest → EndsOption rest → Cut (name ++ after) (record { name = name; value = v }) rest
cut_by name after rest None some are value ends =
    let whole : name ++ after ≡ name ++ rest = ap (λ (t : List ℕ). name ++ t) value in
    record {
      front = name;
      is = whole;
      alone = record { after = []; is = sym (append-nil name); some = some; characters = are; value = refl; ends = inl refl };
      ends = subst (λ (t : List ℕ). EndsAt t (length name)) (sym whole) (name_ends name rest are ends);
    }
cut_by name after rest (Some v) some are value ends =
    let quoted = value.0 in
    let whole : name ++ after ≡ name ++ (equals_sign ∷ quote ∷ (quoted ++ (quote ∷ rest))) = ap (λ (t : List ℕ). name ++ t) value.1 in
    record {
      front = name ++ (equals_sign ∷ quote ∷ (quoted ++ (quote ∷ [])));
      is = whole ∙ before_rest name quoted rest are value.2;
      alone = record { after = equals_sign ∷ quote ∷ (quoted ++ (quote ∷ [])); is = refl; some = some; characters = are; value = (quoted, refl, value.2, value.3); ends = inl refl };
      ends = subst (λ (t : List ℕ). EndsAt t (length (name ++ (equals_sign ∷ quote ∷ (quoted ++ (quote ∷ [])))))) (sym whole) (value_ends name quoted rest are value.2 ends);
    }

cut : (text : List ℕ) (o : KeyOption) (rest : List ℕ) → IsOptionAt text o rest → Cut text o rest
cut text o rest is = subst (λ (t : List ℕ). Cut t o rest) (sym is.is) (cut_by o.name is.after rest o.value is.some is.characters is.value is.ends)

joined_value : (after rest : List ℕ) (v : Option (List ℕ)) → IsValueAt after v [] → IsValueAt (after ++ rest) v rest
joined_value after rest None is = ap (λ (t : List ℕ). t ++ rest) is
joined_value after rest (Some v) is =
    (is.0, ap (λ (t : List ℕ). t ++ rest) is.1 ∙ ap (λ (t : List ℕ). equals_sign ∷ quote ∷ t) (append_assoc is.0 (quote ∷ []) rest), is.2, is.3)

joined : (front rest : List ℕ) (o : KeyOption) → IsOptionAt front o [] → EndsOption rest → IsOptionAt (front ++ rest) o rest
joined front rest o is ends = record {
  after = is.after ++ rest;
  is = ap (λ (t : List ℕ). t ++ rest) is.is ∙ append_assoc o.name is.after rest;
  some = is.some;
  characters = is.characters;
  value = joined_value is.after rest o.value is.value;
  ends = ends;
}

-- ---- commas in front

no_comma_first : (text : List ℕ) → is_comma (slice_index (without_commas text) 0) ≡ false
no_comma_first [] = ap (λ (t : List ℕ). is_comma (slice_index t 0)) (nothing_stays is_comma)
no_comma_first (c ∷ text) = by (is_comma c) refl (no_comma_first text)
  where
    by : (b : Bool) → is_comma c ≡ b → is_comma (slice_index (without_commas text) 0) ≡ false → is_comma (slice_index (without_commas (c ∷ text)) 0) ≡ false
    by true e more = ap (λ (t : List ℕ). is_comma (slice_index t 0)) (skipped is_comma c text e) ∙ more
    by false e _ = ap (λ (t : List ℕ). is_comma (slice_index t 0)) (stays is_comma c text e) ∙ e

all_stays : (text : List ℕ) → is_comma (slice_index text 0) ≡ false → without_commas text ≡ text
all_stays [] e = nothing_stays is_comma
all_stays (c ∷ text) e = stays is_comma c text e

-- what is left is the end of the text
commas_before : (text : List ℕ) → (commas : List ℕ) × (text ≡ commas ++ without_commas text)
commas_before [] = ([], sym (nothing_stays is_comma))
commas_before (c ∷ text) = by (is_comma c) refl (commas_before text)
  where
    by : (b : Bool) → is_comma c ≡ b → (commas : List ℕ) × (text ≡ commas ++ without_commas text) → (commas : List ℕ) × (c ∷ text ≡ commas ++ without_commas (c ∷ text))
    by true e more = (c ∷ more.0, ap (λ (t : List ℕ). c ∷ t) more.1 ∙ ap (λ (t : List ℕ). (c ∷ more.0) ++ t) (sym (skipped is_comma c text e)))
    by false e _ = ([], sym (stays is_comma c text e))

-- ---- the piece of the text up to where an option ends

module _ (text left : List ℕ) (skips : left ≡ without_commas text) (end_ : ℕ) (ends : EndsAt left end_) where
  no_comma_left : is_comma (slice_index left 0) ≡ false
  no_comma_left = ap (λ (t : List ℕ). is_comma (slice_index t 0)) skips ∙ no_comma_first text

  same_piece : without_commas (take end_ left) ≡ take end_ left
  same_piece = all_stays (take end_ left) (by end_)
    where
      by : (n : ℕ) → is_comma (slice_index (take n left) 0) ≡ false
      by zero = refl
      by (suc n) = ap is_comma (get_or-take (suc n) left 0 0 (omega arith)) ∙ no_comma_left

  ends_after : EndsOption (drop end_ left)
  ends_after = elim (cases_lt end_ (length left)) [
    | inl less ↦ inr (let e : end_ + 0 ≡ end_ = omega arith in ap is_comma (get_or-drop end_ left 0 0 ∙ ap (slice_index left) e) ∙ (ends.ends less).0)
    | inr above ↦ inl (drop_of_length-le left above)
  ]

  ends_more : (rest : List ℕ) → EndsOption rest → EndsOption (rest ++ drop end_ left)
  ends_more [] is = ends_after
  ends_more (c ∷ rest) (inl none) = absurd (omega (arith, ap length none))
  ends_more (c ∷ rest) (inr comma) = inr comma

  -- an option of the piece is the first of the text
  pub found : (o : KeyOption) (rest : List ℕ) → IsOptionAt (without_commas (take end_ left)) o rest → IsOptionAt (without_commas text) o (drop end_ left)
  found o rest is =
      let here = subst (λ (t : List ℕ). IsOptionAt t o rest) same_piece is in
      let first = cut (take end_ left) o rest here in
      let whole : left ≡ first.front ++ (rest ++ drop end_ left) = sym (take-append-drop end_ left) ∙ ap (λ (t : List ℕ). t ++ drop end_ left) first.is ∙ append_assoc first.front rest (drop end_ left) in
      let there = subst (λ (t : List ℕ). IsOptionAt t o (rest ++ drop end_ left)) (sym whole) (joined first.front (rest ++ drop end_ left) o first.alone (ends_more rest here.ends)) in
      let last = cut left o (rest ++ drop end_ left) there in
      let same : end_ ≡ length last.front = one_end left end_ (length last.front) ends last.ends in
      let nothing : length rest ≡ 0
      = omega (arith, same, ap length last.is, length-append last.front (rest ++ drop end_ left), length-append rest (drop end_ left), length-drop end_ left, ends.within) in
      subst (λ (t : List ℕ). IsOptionAt t o (drop end_ left)) skips (subst (λ (t : List ℕ). IsOptionAt left o (t ++ drop end_ left)) (nil_from_length rest nothing) there)

  -- the first of the text is one of the piece
  pub only : (o : KeyOption) (rest : List ℕ) → IsOptionAt (without_commas text) o rest → IsOptionAt (without_commas (take end_ left)) o []
  only o rest is =
      let first = cut left o rest (subst (λ (t : List ℕ). IsOptionAt t o rest) (sym skips) is) in
      let same : end_ ≡ length first.front = one_end left end_ (length first.front) ends first.ends in
      let front : take end_ left ≡ first.front = (λ j. take (same j) (first.is j)) ∙ take-append_seam first.front rest in
      subst (λ (t : List ℕ). IsOptionAt t o []) (sym (same_piece ∙ front)) first.alone

-- ---- its place in all options

pub after_place : (options left : List ℕ) (place end_ : ℕ) → left ≡ without_commas (drop place options) → end_ ≤ length left → drop (length options - (length left - end_)) options ≡ drop end_ left
after_place options left place end_ skips within =
    let commas = commas_before (drop place options) in
    let front = (take place options ++ commas.0) ++ take end_ left in
    let whole : options ≡ front ++ drop end_ left
    = sym (take-append-drop place options)
    ∙ ap (λ (t : List ℕ). take place options ++ t) (commas.1 ∙ ap (λ (t : List ℕ). commas.0 ++ t) (sym skips ∙ sym (take-append-drop end_ left)))
    ∙ sym (append_assoc (take place options) commas.0 (take end_ left ++ drop end_ left))
    ∙ sym (append_assoc (take place options ++ commas.0) (take end_ left) (drop end_ left)) in
    let size : length options - (length left - end_) ≡ length front = omega (arith, ap length whole, length-append front (drop end_ left), length-drop end_ left) in
    (λ j. drop (size j) (whole j)) ∙ drop-append_seam front (drop end_ left)
