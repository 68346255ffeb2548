-- What is found byte by byte: a divider, and where a mark may stand.
use Rattle.std.proofs.Common.{◌≡◌, ◌∙◌, ◌+◌, ◌-◌, ◌<◌, ◌≤◌, ◌⊎◌, ℕ, List, Bool, true, false, Option, Some, None, ap, arith, cond, drop, eq-eqb, get_or, inl, inr, length, lt-ltb, nat_lt, position, refl, slice_index, subst, sym, take, ◌++◌, suc, [], ◌∷◌, take-append-drop, take-take}
use Rattle.std.proofs.lemmas.Bool.{le-ltb}
use Rattle.std.proofs.lemmas.List.{get_or-drop, length-drop, take_rest, drop_more, get_or-append-add, get_or-take, get_or_append_left, length-append, length-take-le, take_all}
use Rattle.std.proofs.lemmas.List.Sums.{position_or_len_is}
use Rattle.std.specs.List.{position_or_len}
use Rattle.memchr.specs.Find.{IsFirstByte, is_byte3, FindsNeedle, OccursAt}
use Rattle.user_keys.proofs.Spelled.{first_and_others}
use Rattle.user_keys.specs.Spellings.{FindsStart, HasMarkAt, Follow, IsUnmarked, IsUnspaced, Lacks, StandAt}
use Rattle.user_keys.specs.declared.marks.Marks.{Marks}
use Rattle.std.proofs.Math.Seq.{take-append_seam}
use Rattle.memchr.proofs.lemmas.MatchLemmas.{OccursAt-from_part}
use Rattle.sshkey_entries.proofs.Fronts.{nothing_stays, stays}
use Rattle.sshkey_entries.specs.Fields.{is_white}

not_true : (b : Bool) → (b ≡ true → ⊥) → b ≡ false
not_true true other = absurd (other refl)
not_true false _ = refl

-- a first place is where a test passes first
pub first_place : (test : ℕ → Bool) (text : List ℕ) (found : Option ℕ) → IsFirstByte test text found → found ≡ position test text
first_place test text None nowhere =
    let none : position_or_len test text ≡ length text = position_or_len_is test text (length text) 0 (omega arith) (λ k l. not_true _ (nowhere k (omega arith) l)) (λ l. absurd (omega (arith, l))) in
    sym (ap (λ (n : ℕ). cond (nat_lt n (length text)) (Some n) None) none ∙ ap (λ (b : Bool). cond b (Some (length text)) None) (le-ltb (length text) (length text) (omega arith)))
first_place test text (Some place) is =
    let here : position_or_len test text ≡ place = position_or_len_is test text place 0 (omega (arith, is.0.high)) (λ k l. not_true _ (is.0.before k (omega arith) l)) (λ _. is.1) in
    sym (ap (λ (n : ℕ). cond (nat_lt n (length text)) (Some n) None) here ∙ ap (λ (b : Bool). cond b (Some place) None) (lt-ltb place (length text) is.0.high))

-- ---- the first symbol of a mark

one_of : (a b c x : ℕ) → ((x ≡ a) ⊎ (x ≡ b) ⊎ (x ≡ c)) → is_byte3 a b c x ≡ true
one_of a b c x (inl e) = grind (arith, eq-eqb x a e)
one_of a b c x (inr (inl e)) = grind (arith, eq-eqb x b e)
one_of a b c x (inr (inr e)) = grind (arith, eq-eqb x c e)

module _ (m : Marks) (one : 0 < length m.first.symbols) (two : 0 < length m.second.symbols) (three : 0 < length m.third.symbols) (text : List ℕ) where
  abbrev starts : ℕ → Bool
  starts x = is_byte3 (slice_index m.first.symbols 0) (slice_index m.second.symbols 0) (slice_index m.third.symbols 0) x

  begins : (k : ℕ) → HasMarkAt m text k → starts (slice_index text k) ≡ true
  begins k (inl h) = one_of _ _ _ _ (inl ((first_and_others m.first.symbols text k one).0 h).0)
  begins k (inr (inl h)) = one_of _ _ _ _ (inr (inl ((first_and_others m.second.symbols text k two).0 h).0))
  begins k (inr (inr h)) = one_of _ _ _ _ (inr (inr ((first_and_others m.third.symbols text k three).0 h).0))

  -- no mark stands where the test fails, at that place of the rest
  not_here : (from : ℕ) (k : ℕ) → from ≤ k → (starts (slice_index (drop from text) (k - from)) ≡ true → ⊥) → HasMarkAt m text k → ⊥
  not_here from k above fails h =
      let there : from + (k - from) ≡ k = omega (arith, above) in
      fails (ap starts (get_or-drop from text (k - from) 0 ∙ ap (λ (n : ℕ). get_or text n 0) there) ∙ begins k h)

  -- the first such place of the rest, as it is given to the search
  pub start_some : (from step : ℕ) → IsFirstByte starts (take (length text - from) (drop from text)) (Some step) → FindsStart m text from (Some (from + step))
  start_some from step is =
      let found : IsFirstByte starts (drop from text) (Some step) = subst (λ (l : List ℕ). IsFirstByte starts l (Some step)) (take_rest text from) is in (
        omega arith,
        omega (arith, found.0.high, length-drop from text),
        λ k above less. not_here from k above (found.0.before (k - from) (omega arith) (omega (arith, above, less))),
      )

  pub start_none : (from : ℕ) → IsFirstByte starts (take (length text - from) (drop from text)) None → FindsStart m text from None
  start_none from nowhere =
      let found : IsFirstByte starts (drop from text) None = subst (λ (l : List ℕ). IsFirstByte starts l None) (take_rest text from) nowhere in
      λ k above less. not_here from k above (found (k - from) (omega arith) (omega (arith, above, less, length-drop from text)))

-- A text in no part of which a mark stands: it has no white space, and none of the marks as one text.

-- ---- parts

module _ (text before part after : List ℕ) (is : text ≡ before ++ (part ++ after)) where
  at_part : (k : ℕ) → k < length part → get_or text (length before + k) 0 ≡ get_or part k 0
  at_part k l = ap (λ (t : List ℕ). get_or t (length before + k) 0) is ∙ get_or-append-add before (part ++ after) k 0 ∙ get_or_append_left part after 0 k l

  size : length before + length part ≤ length text
  size = omega (arith, ap length is, length-append before (part ++ after), length-append part after)

  pub occurs_in : (symbols : List ℕ) (k : ℕ) → OccursAt part symbols k → OccursAt text symbols (length before + k)
  occurs_in symbols k h = record {
    fits = omega (arith, h.fits, size);
    reads = λ j l.
        let one : length before + k + j ≡ length before + (k + j) = omega arith in
        ap (λ (n : ℕ). get_or text n 0) one ∙ at_part (k + j) (omega (arith, h.fits, l)) ∙ h.reads j l;
  }

  pub unspaced_in : IsUnspaced text → IsUnspaced part
  unspaced_in free k l = sym (ap is_white (at_part k l)) ∙ free (length before + k) (omega (arith, l, size))

-- a front is a part
front_of : (n : ℕ) (text : List ℕ) → text ≡ [] ++ (take n text ++ drop n text)
front_of n text = sym (take-append-drop n text)

occurs_in_front : (n : ℕ) (text symbols : List ℕ) (k : ℕ) → OccursAt (take n text) symbols k → OccursAt text symbols k
occurs_in_front n text symbols k h =
    let same : length {A = ℕ} [] + k ≡ k = omega arith in
    subst (OccursAt text symbols) same (occurs_in text [] (take n text) (drop n text) (front_of n text) symbols k h)

pub shorter_front : (symbols text : List ℕ) (n m : ℕ) → m ≤ n → Lacks symbols (take n text) → Lacks symbols (take m text)
shorter_front symbols text n m l none k h = none k (occurs_in_front m (take n text) symbols k (subst (λ (t : List ℕ). OccursAt t symbols k) (sym (take-take m n text l)) h))

-- ---- what is found

pub free_before : (symbols text : List ℕ) (place : ℕ) → 0 < length symbols → FindsNeedle text symbols 0 (Some place) → Lacks symbols (take place text)
free_before symbols text place some is k h = is.0.before k (omega arith) (omega (arith, h.fits, length-take-le place text (omega (arith, is.1.fits)))) (occurs_in_front place text symbols k h)

pub free_all : (symbols text : List ℕ) → FindsNeedle text symbols 0 None → Lacks symbols (take (length text) text)
free_all symbols text none = subst (Lacks symbols) (sym (take_all (length text) text (omega arith))) (λ k h. none k (omega arith) (omega (arith, h.fits)) h)

not_white : (c : ℕ) → (is_byte3 11 12 13 c ≡ true → ⊥) → is_white c ≡ false
not_white c other = no (is_white c) other
  where
    no : (b : Bool) → (b ≡ true → ⊥) → b ≡ false
    no true not = absurd (not refl)
    no false not = refl

pub unspaced_before : (text : List ℕ) (place : ℕ) → IsFirstByte (is_byte3 11 12 13) text (Some place) → IsUnspaced (take place text)
unspaced_before text place is k l =
    let less : k < place = omega (arith, l, length-take-le place text (omega (arith, is.0.high))) in
    ap is_white (get_or-take place text k 0 less) ∙ not_white (get_or text k 0) (is.0.before k (omega arith) less)

pub unspaced_whole : (text : List ℕ) → IsUnspaced text → IsUnspaced (take (length text) text)
unspaced_whole text free = subst IsUnspaced (sym (take_all (length text) text (omega arith))) free

pub unspaced_all : (text : List ℕ) → IsFirstByte (is_byte3 11 12 13) text None → IsUnspaced (take (length text) text)
unspaced_all text none = unspaced_whole text (λ k l. not_white (get_or text k 0) (none k (omega arith) l))

-- ---- without white space

-- symbols that follow one another stand there as they are
follows : (symbols text : List ℕ) → IsUnspaced text → Follow symbols text → (rest : List ℕ) × (text ≡ symbols ++ rest)
follows [] text free h = (text, refl)
follows (s ∷ symbols) [] free h = absurd (let none : [] ≡ s ∷ h.0 = sym (nothing_stays is_white) ∙ h.1 in cc)
follows (s ∷ symbols) (c ∷ text) free h =
    let whole : c ∷ text ≡ s ∷ h.0 = sym (stays is_white c text (free 0 (omega arith))) ∙ h.1 in
    let same : c ≡ s = cc in
    let left : h.0 ≡ text = cc in
    let more = follows symbols text (λ k l. free (suc k) (omega (arith, l))) (subst (Follow symbols) left h.2) in
    (more.0, ap (λ (x : ℕ). x ∷ text) same ∙ ap (λ (l : List ℕ). s ∷ l) more.1)

occurs : (symbols text : List ℕ) (place : ℕ) → IsUnspaced text → place < length text → StandAt symbols text place → OccursAt text symbols place
occurs [] text place free l none = absurd none
occurs (s ∷ symbols) text place free l h =
    let more = follows symbols (drop (place + 1) text) (λ k m. ap is_white (get_or-drop (place + 1) text k 0) ∙ free (place + 1 + k) (omega (arith, m, length-drop (place + 1) text))) h.1 in
    let from : drop place text ≡ (s ∷ symbols) ++ more.0 = drop_more text place 0 l ∙ ap (λ (c : ℕ). c ∷ drop (place + 1) text) h.0 ∙ ap (λ (r : List ℕ). s ∷ r) more.1 in
    OccursAt-from_part text (s ∷ symbols) place (omega (arith, l, length-drop place text, ap length from, length-append (s ∷ symbols) more.0)) (ap (take (length (s ∷ symbols))) from ∙ take-append_seam (s ∷ symbols) more.0)

pub unmarked : (m : Marks) (text : List ℕ) → IsUnspaced text → Lacks m.first.symbols text → Lacks m.second.symbols text → Lacks m.third.symbols text → IsUnmarked m text
unmarked m text free one two three before part after is (inl h) = one (length before + h.0) (occurs_in text before part after is m.first.symbols h.0 (occurs m.first.symbols part h.0 (unspaced_in text before part after is free) h.1 h.2))
unmarked m text free one two three before part after is (inr (inl h)) = two (length before + h.0) (occurs_in text before part after is m.second.symbols h.0 (occurs m.second.symbols part h.0 (unspaced_in text before part after is free) h.1 h.2))
unmarked m text free one two three before part after is (inr (inr h)) = three (length before + h.0) (occurs_in text before part after is m.third.symbols h.0 (occurs m.third.symbols part h.0 (unspaced_in text before part after is free) h.1 h.2))

-- ---- one after the other

module _ (m : Marks) (text : List ℕ) (unspaced first second third : ℕ) where
  pub all_free : unspaced ≤ length text → first ≤ length (take unspaced text) → second ≤ length (take first text) → third ≤ length (take second text) → IsUnspaced (take unspaced text) → Lacks m.first.symbols (take first (take unspaced text)) → Lacks m.second.symbols (take second (take first text)) → Lacks m.third.symbols (take third (take second text)) → IsUnmarked m (take third text)
  all_free within a b c free one two three =
      let size = length-take-le unspaced text within in
      let first_size = length-take-le first text (omega (arith, within, a, size)) in
      let second_size = length-take-le second text (omega (arith, within, a, b, size, first_size)) in
      let first_free : Lacks m.first.symbols (take first text) = subst (Lacks m.first.symbols) (take-take first unspaced text (omega (arith, a, size))) one in
      let second_free : Lacks m.second.symbols (take second text) = subst (Lacks m.second.symbols) (take-take second first text (omega (arith, b, first_size))) two in
      let third_free : Lacks m.third.symbols (take third text) = subst (Lacks m.third.symbols) (take-take third second text (omega (arith, c, second_size))) three in
      let all : take unspaced text ≡ [] ++ (take third text ++ drop third (take unspaced text)) = sym (take-append-drop third (take unspaced text)) ∙ ap (λ (l : List ℕ). l ++ drop third (take unspaced text)) (take-take third unspaced text (omega (arith, a, b, c, size, first_size, second_size))) in
      unmarked m (take third text) (unspaced_in (take unspaced text) [] (take third text) (drop third (take unspaced text)) all free) (shorter_front m.first.symbols text first third (omega (arith, b, c, first_size, second_size)) first_free) (shorter_front m.second.symbols text second third (omega (arith, c, second_size)) second_free) third_free
