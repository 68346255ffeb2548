-- Names that are listed.
use Rattle.std.proofs.Common.{◌≡◌, ◌∙◌, ◌==◌, ◌<◌, ℕ, List, [], ◌∷◌, Bool, true, false, Some, None, ap, arith, bytes_eq, cond, get_or, inl, inr, length, lt-ltb, map, position, refl, string_bytes, ◌≢◌, ◌+◌, ◌++◌, ◌||◌, Bor, Option, drop, eq-eqb, eqb-true, ne_eqb, option_map, reverse, slice_index, subst, sym, take, take-append-drop, take_all}
use Rattle.std.proofs.lemmas.Bool.{cases_lt, eqb-false}
use Rattle.std.proofs.lemmas.List.Elements.{All-from_get_or}
use Rattle.std.proofs.lemmas.List.Folds.{list_any_none}
use Rattle.std.proofs.lemmas.List.Sums.{fails_before_first, position_or_len_is}
use Rattle.std.specs.List.{list_any, position_or_len, All, before_first, slice_split}
use Rattle.std.specs.Prelude.{String, MatchOption}
use Rattle.user_keys.specs.Certificates.{first_listed, is_listed}
use Rattle.std.proofs.lemmas.Grind.{common_steps}
use Rattle.std.proofs.lemmas.List.{drop_more, get_or-take, length-append, length-take-le, reverse-append, reverse-reverse}
use Rattle.std.proofs.lemmas.List.Quantifiers.{position-Some}
use Rattle.std.proofs.lemmas.List.Splits.{length-slice_split, slice_split_at, slice_split_none}
use Rattle.std.specs.Str.{IsUtf8}
use Rattle.std.specs.Str.Lines.{lines, lines_of_parts, strip_carriage_return}
use Rattle.sshkey_entries.proofs.Fronts.{nothing_stays, skipped, stays}
use Rattle.sshkey_entries.proofs.OneEntry.{one_end}
use Rattle.sshkey_entries.proofs.OneOpenSshLine.{same_front}
use Rattle.sshkey_entries.proofs.TextLines.{more_lines}
use Rattle.sshkey_entries.specs.Fields.{without_blanks, is_blank}
use Rattle.user_keys.specs.Principals.{AreFrontOptions, AreOptionsIn, HasOptions, SplitsAt, SplitsLine, after_last, entry_in, is_feed, is_space, is_tab, last_word, lines_at_feeds, name_in, trimmed}

pub mapped : {Y : Type 0} (name : List ℕ) (listed : List (String Y)) → list_any (λ other. bytes_eq name (string_bytes other)) listed ≡ is_listed (map string_bytes listed) name
mapped name [] = refl
mapped name (other ∷ listed) = rw (mapped name listed) refl

pub of_bytes : {Y : Type 0} (listed : List (String Y)) (bytes name : List ℕ) → name ≡ bytes → list_any (λ other. bytes_eq name (string_bytes other)) listed ≡ list_any (λ other. bytes_eq bytes (string_bytes other)) listed
of_bytes listed bytes name is = ap (λ (n : List ℕ). list_any (λ other. bytes_eq n (string_bytes other)) listed) is

-- none passes before the first that does
pub none_there : {X : Type 0} (p : X → Bool) (xs : List X) (d : X) → None ≡ position p xs → (k : ℕ) → k < length xs → p (get_or xs k d) ≡ false
none_there p xs d none k l = elim (cases_lt (position_or_len p xs) (length xs)) [
  | inl less ↦ absurd (let some : None ≡ Some (position_or_len p xs) = none ∙ ap (λ (b : Bool). cond b (Some (position_or_len p xs)) None) (lt-ltb _ _ less) in cc)
  | inr above ↦ fails_before_first p xs k d (omega (arith, l, above))
]

pub none_at : {X : Type 0} (p : X → Bool) (xs : List X) → None ≡ position p xs → list_any p xs ≡ false
none_at p [] none = refl
none_at p (x ∷ xs) none = list_any_none p (x ∷ xs) (All-from_get_or (λ y. p y ≡ false) (x ∷ xs) x (none_there p (x ∷ xs) x none))

module _ (listed : List (List ℕ)) (name : List ℕ) (names all : List (List ℕ)) (is : all ≡ name ∷ names) where
  pub at_listed : (length name == 0) ≡ false → is_listed listed name ≡ true → first_listed listed all ≡ Some name
  at_listed some has = rw (is, some, has) refl

  pub at_other : (length name == 0) ≡ false → is_listed listed name ≡ false → first_listed listed all ≡ first_listed listed names
  at_other some has = rw (is, some, has) refl

-- How a text is taken apart, and a line of a file of principals.

-- ---- lines

no_feed : (text : List ℕ) → ((k : ℕ) → k < length text → slice_index text k ≢ 0x0a) → All (λ c. is_feed c ≡ false) text
no_feed text none = All-from_get_or (λ c. is_feed c ≡ false) text 0 (λ k l. ne_eqb _ 0x0a (none k l))

pub first_line : (text : List ℕ) (line rest : Bor (List ℕ)) → SplitsAt 0x0a text (Some (line, rest)) → SplitsLine text line.now (Some rest)
first_line text line rest cut = (
  ap (slice_split is_feed) cut.0 ∙ slice_split_at is_feed line.now 0x0a rest.now (no_feed line.now cut.1) refl,
  omega (arith, ap length cut.0, length-append line.now (0x0a ∷ rest.now)),
)

pub only_line : (text : List ℕ) → SplitsAt 0x0a text None → SplitsLine text text None
only_line text none = slice_split_none is_feed text (no_feed text none)

-- the same of authorized_keys, where a carriage return before a feed is no part of its line
pub next_line : (text line rest shown : List ℕ) → lines_at_feeds text ≡ line ∷ lines_at_feeds rest → shown ≡ strip_carriage_return line → lines text ≡ shown ∷ lines rest
next_line text line rest shown is same = ap lines_of_parts is ∙ more_lines line (slice_split is_feed rest) (omega (arith, length-slice_split is_feed rest)) ∙ ap (λ (l : List ℕ). l ∷ lines rest) (sym same)

pub last_line : (text : List ℕ) → (length text == 0) ≡ false → lines_at_feeds text ≡ text ∷ [] → lines text ≡ text ∷ []
last_line text some is = ap lines_of_parts is ∙ ap (λ (b : Bool). cond b [] (text ∷ [])) some

-- ---- a divider

pub cut_at : (c : ℕ) (text : List ℕ) (place : ℕ) (front rest : List ℕ) → Some place ≡ position (λ x. x == c) text → front ≡ take place text → rest ≡ drop (place + 1) text → (text ≡ front ++ (c ∷ rest)) × ((k : ℕ) → k < length front → slice_index front k ≢ c)
cut_at c text place front rest found first last =
    let at = position-Some (λ x. x == c) text place 0 (sym found) in
    let here : drop place text ≡ c ∷ rest = drop_more text place 0 at.0 ∙ (λ j. eqb-true (get_or text place 0) c at.1 j ∷ sym last j) in
    let size : length (take place text) ≡ place = length-take-le place text (omega (arith, at.0)) in (
      sym (take-append-drop place text) ∙ (λ j. sym first j ++ here j),
      λ k l. let less : k < place = omega (arith, l, ap length first, size) in
          eqb-false (slice_index front k) c (ap (λ (t : List ℕ). slice_index t k == c) first ∙ ap (λ (x : ℕ). x == c) (get_or-take place text k 0 less) ∙ at.2 k less),
    )

pub uncut : (c : ℕ) (text : List ℕ) → None ≡ position (λ x. x == c) text → SplitsAt c text None
uncut c text none k l = eqb-false (slice_index text k) c (none_there (λ x. x == c) text 0 none k l)

pub first_part : (c : ℕ) (text : List ℕ) (front rest : Bor (List ℕ)) → SplitsAt c text (Some (front, rest)) → front.now ≡ before_first (λ x. x == c) text
first_part c text front rest is =
    let whole = is.0 in
    let n = length front.now in
    let at : position_or_len (λ x. x == c) text ≡ n = position_or_len_is (λ x. x == c) text n 0 (omega (arith, ap length whole, length-append front.now (c ∷ rest.now)))
    (λ k l. let same : get_or text k 0 ≡ get_or front.now k 0 = grind (arith, common_steps) in ne_eqb _ c (λ e. is.1 k l (sym same ∙ e)))
    (λ _. eq-eqb _ c (grind (arith, common_steps))) in
    let part : front.now ≡ take n text = grind (arith, common_steps) in
    part ∙ ap (λ (k : ℕ). take k text) (sym at)

pub no_part : (c : ℕ) (text : List ℕ) → SplitsAt c text None → text ≡ before_first (λ x. x == c) text
no_part c text none =
    let at : position_or_len (λ x. x == c) text ≡ length text = position_or_len_is (λ x. x == c) text (length text) 0 (omega arith) (λ k l. ne_eqb _ c (none k l)) (λ l. absurd (omega (arith, l))) in
    sym (ap (λ (k : ℕ). take k text) at ∙ take_all (length text) text (omega arith))

-- ---- the end of a text

pub shorter : (text front : List ℕ) (c : ℕ) → is_blank c ≡ true → text ≡ front ++ (c ∷ []) → (trimmed text ≡ trimmed front) × (length front < length text)
shorter text front c blank is = (
  ap (λ (t : List ℕ). reverse (without_blanks t)) (ap reverse is ∙ reverse-append front (c ∷ [])) ∙ ap reverse (skipped is_blank c (reverse front) blank),
  omega (arith, ap length is, length-append front (c ∷ [])),
)

pub kept : (text front : List ℕ) (c : ℕ) → is_blank c ≡ false → text ≡ front ++ (c ∷ []) → trimmed text ≡ text
kept text front c other is =
    let back : reverse text ≡ c ∷ reverse front = ap reverse is ∙ reverse-append front (c ∷ []) in
    ap (λ (t : List ℕ). reverse (without_blanks t)) back ∙ ap reverse (stays is_blank c (reverse front) other ∙ sym back) ∙ reverse-reverse text

pub empty_kept : (text : List ℕ) → length text ≡ 0 → trimmed text ≡ text
empty_kept [] none = ap reverse (nothing_stays is_blank)
empty_kept (c ∷ text) none = absurd (omega (arith, none))

-- ---- after the last

or_more : (b : Bool) → (b || true) ≡ true
or_more true = refl
or_more false = refl

module _ (is : ℕ → Bool) where
  pub some_in : (front more : List ℕ) (c : ℕ) → is c ≡ true → list_any is (front ++ (c ∷ more)) ≡ true
  some_in [] more c e = ap (λ (b : Bool). b || list_any is more) e
  some_in (d ∷ front) more c e = ap (λ (b : Bool). is d || b) (some_in front more c e) ∙ or_more (is d)

  on : (c : ℕ) (text : List ℕ) → list_any is (c ∷ text) ≡ true → after_last is (c ∷ text) ≡ after_last is text
  unfolding after_last
  on c text e = ap (λ (b : Bool). cond b (after_last is text) (c ∷ text)) e

  pub after_none : (text : List ℕ) → list_any is text ≡ false → after_last is text ≡ text
  unfolding after_last
  after_none [] e = refl
  after_none (c ∷ text) e = ap (λ (b : Bool). cond b (after_last is text) (c ∷ text)) e

  pub after_one : (front more : List ℕ) (c : ℕ) → is c ≡ true → after_last is (front ++ (c ∷ more)) ≡ after_last is more
  after_one [] more c e = on c more (some_in [] more c e)
  after_one (d ∷ front) more c e = on d (front ++ (c ∷ more)) (some_in (d ∷ front) more c e) ∙ after_one front more c e

same_divider : (c : ℕ) → (c == c) ≡ true
same_divider c = grind arith

pub some_divider : (c : ℕ) (text : List ℕ) (front rest : Bor (List ℕ)) → SplitsAt c text (Some (front, rest)) → (list_any (λ x. x == c) text ≡ true) × (after_last (λ x. x == c) text ≡ after_last (λ x. x == c) rest.now) × (length rest.now < length text)
some_divider c text front rest cut =
    let is = cut.0 in (
      ap (λ (t : List ℕ). list_any (λ x. x == c) t) is ∙ some_in (λ x. x == c) front.now rest.now c (same_divider c),
      ap (λ (t : List ℕ). after_last (λ x. x == c) t) is ∙ after_one (λ x. x == c) front.now rest.now c (same_divider c),
      omega (arith, ap length is, length-append front.now (c ∷ rest.now)),
    )

pub no_divider : (c : ℕ) (text : List ℕ) → SplitsAt c text None → list_any (λ x. x == c) text ≡ false
no_divider c text none = list_any_none (λ x. x == c) text (All-from_get_or (λ x. (x == c) ≡ false) text 0 (λ k l. ne_eqb _ c (none k l)))

pub one_word : (text : List ℕ) → list_any is_space text ≡ false → list_any is_tab text ≡ false → last_word text ≡ text
one_word text s t = ap (λ (b : Bool). cond b (without_blanks (after_last is_space text)) (after_last is_tab text)) s ∙ after_none is_tab text t

-- ---- the options

one_front : (text a b : List ℕ) → AreFrontOptions text a → AreFrontOptions text b → a ≡ b
one_front text a b (inl x) (inl y) = (same_front a b x.0 y.0 (one_end text (length a) (length b) x.2 y.2) (sym x.1 ∙ y.1)).0
one_front text a b (inl x) (inr none) = absurd (none.0 (length a) x.2)
one_front text a b (inr none) (inl y) = absurd (none.0 (length b) y.2)
one_front text a b (inr x) (inr y) = x.1 ∙ sym y.1

one_text : (line a b : List ℕ) → AreOptionsIn line a → AreOptionsIn line b → a ≡ b
one_text line a b (inl x) (inl y) = x.1 ∙ sym y.1
one_text line a b (inl x) (inr y) = absurd (y.0 x.0)
one_text line a b (inr x) (inl y) = absurd (x.0 y.0)
one_text line a b (inr x) (inr y) = one_front _ a b x.1 y.1

pub one_options : (line : List ℕ) (a b : Option (List ℕ)) → HasOptions line a → HasOptions line b → a ≡ b
one_options line None None x y = refl
one_options line None (Some b) x y = absurd (x y.0)
one_options line (Some a) None x y = absurd (y x.0)
one_options line (Some a) (Some b) x y = ap (λ (o : List ℕ). Some o) (one_text line a b x.1 y.1)

options_are : (line options : List ℕ) (alone : Bool) → alone ≡ (length (name_in line) == length (trimmed (entry_in line))) → (alone ≡ true → options ≡ []) → (alone ≡ false → AreFrontOptions (entry_in line) options) → AreOptionsIn line options
options_are line options true is none front = inl (eqb-true _ _ (sym is), none refl)
options_are line options false is none front = inr (λ same. let yes : (length (name_in line) == length (trimmed (entry_in line))) ≡ true = subst (λ (n : ℕ). (length (name_in line) == n) ≡ true) same (same_divider (length (name_in line))) in let no : (length (name_in line) == length (trimmed (entry_in line))) ≡ false = sym is in cc, front refl)

pub has_options : (line : List ℕ) (r : Option (Bor (List ℕ))) (alone : Bool) → alone ≡ (length (name_in line) == length (trimmed (entry_in line))) → MatchOption r (IsUtf8 (entry_in line) → ⊥) (λ o. IsUtf8 (entry_in line) × (alone ≡ true → o.now ≡ []) × (alone ≡ false → AreFrontOptions (entry_in line) o.now)) → HasOptions line (option_map (λ o. o.now) r)
has_options line None alone is other = other
has_options line (Some o) alone is utf8 = (utf8.0, options_are line o.now alone is utf8.1 utf8.2)
