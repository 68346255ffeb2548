-- The lines of a front in no part of which a mark stands.
use Rattle.std.proofs.Common.{cond, ◌≡◌, ◌∙◌, ◌+◌, ◌-◌, ◌++◌, ◌<◌, ◌≤◌, ℕ, zero, suc, List, [], ◌∷◌, false, Some, ap, append-nil, append_assoc, arith, drop, eqb, eqb-true, get_or, inl, inr, length, refl, subst, sym, take, take-append-drop}
use Rattle.std.proofs.lemmas.Bool.{cases_lt, cond_both}
use Rattle.std.proofs.lemmas.List.{drop_more, get_or-take, length-append, length-take, length-take-le, take-take, take_rest}
use Rattle.std.proofs.lemmas.List.Elements.{All-append, All-cons, All-from_get_or, All-nil}
use Rattle.std.proofs.lemmas.List.Splits.{length-slice_split, slice_split_at, slice_split_first, slice_split_none}
use Rattle.std.proofs.lemmas.List.Sums.{count_by-le-length, fails_before_first, passes_at_first, split_at_first, sum_by-take-drop}
use Rattle.std.specs.List.{All, after_first, before_first, count_by, position_or_len, slice_split}
use Rattle.std.specs.Prelude.{slice_index}
use Rattle.std.specs.Str.Lines.{lines, lines_of_parts, strip_carriage_return}
use Rattle.memchr.specs.Find.{IsLastByte, is_byte}
use Rattle.sshkey_entries.proofs.TextLines.{more_lines}
use Rattle.user_keys.specs.Principals.{is_feed}
use Rattle.user_keys.specs.Spellings.{SkipsLines, HasMark, IsUnmarked}
use Rattle.user_keys.specs.declared.marks.Marks.{Marks}

line_before : (front after : List ℕ) → All (λ c. is_feed c ≡ false) front → lines (front ++ (10 ∷ after)) ≡ strip_carriage_return front ∷ lines after
line_before front after none =
    ap lines_of_parts (slice_split_at is_feed front 10 after none refl)
    ∙ more_lines front (slice_split is_feed after) (omega (arith, length-slice_split is_feed after))

without_return : (line : List ℕ) → (after : List ℕ) × (line ≡ strip_carriage_return line ++ after)
without_return line = cond_both (eqb (slice_index line (length line - 1)) 13) (take (length line - 1) line) line (λ (s : List ℕ). (after : List ℕ) × (line ≡ s ++ after)) (λ _. (drop (length line - 1) line, sym (take-append-drop (length line - 1) line))) (λ _. ([], sym (append-nil line)))

module _ (m : Marks) where
  abbrev Unmarked : List ℕ → Type 0
  Unmarked line = HasMark m line → ⊥

  -- what is before a feed
  first_unmarked : (xs front after : List ℕ) → IsUnmarked m xs → xs ≡ front ++ after → Unmarked (strip_carriage_return front)
  first_unmarked xs front after free is =
      let cut = without_return front in
      free [] (strip_carriage_return front) (cut.0 ++ after) (is ∙ ap (λ (l : List ℕ). l ++ after) cut.1 ∙ append_assoc (strip_carriage_return front) cut.0 after)

  rest_unmarked : (xs front rest : List ℕ) (c : ℕ) → IsUnmarked m xs → xs ≡ front ++ (c ∷ rest) → IsUnmarked m rest
  rest_unmarked xs front rest c free is before part after at =
      free (front ++ (c ∷ before)) part after (is ∙ ap (λ (l : List ℕ). front ++ (c ∷ l)) at ∙ sym (append_assoc front (c ∷ before) (part ++ after)))

  abbrev Skips : List ℕ → List ℕ → Type 0
  Skips xs ys = (before : List (List ℕ)) × (lines (xs ++ (10 ∷ ys)) ≡ before ++ lines ys) × (length before ≡ length (slice_split is_feed xs)) × All Unmarked before

  one_line : (xs ys : List ℕ) → IsUnmarked m xs → length xs ≤ position_or_len is_feed xs → Skips xs ys
  one_line xs ys free none =
      let no_feed : All (λ c. is_feed c ≡ false) xs = All-from_get_or (λ c. is_feed c ≡ false) xs 0 (λ k l. fails_before_first is_feed xs k 0 (omega (arith, l, none))) in (
        strip_carriage_return xs ∷ [],
        line_before xs ys no_feed,
        sym (ap length (slice_split_none is_feed xs no_feed)),
        All-cons Unmarked (strip_carriage_return xs) [] (first_unmarked xs xs [] free (sym (append-nil xs))) (All-nil Unmarked),
      )

  one_more : (xs ys : List ℕ) → IsUnmarked m xs → position_or_len is_feed xs < length xs → Skips (after_first is_feed xs) ys → Skips xs ys
  one_more xs ys free less later =
      let front = before_first is_feed xs in
      let rest = after_first is_feed xs in
      let place = position_or_len is_feed xs in
      let feed : get_or xs place 0 ≡ 10 = eqb-true _ 10 (passes_at_first is_feed xs 0 less) in
      let whole : xs ≡ front ++ (10 ∷ rest) = split_at_first is_feed xs 0 less ∙ ap (λ (c : ℕ). front ++ (c ∷ rest)) feed in
      let size : length (take place xs) ≡ place = length-take-le place xs (omega (arith, less)) in
      let no_feed : All (λ c. is_feed c ≡ false) front = All-from_get_or (λ c. is_feed c ≡ false) front 0 (λ k l. let before : k < place = omega (arith, l, size) in ap is_feed (get_or-take place xs k 0 before) ∙ fails_before_first is_feed xs k 0 before) in (
        strip_carriage_return front ∷ later.0,
        ap (λ (l : List ℕ). lines (l ++ (10 ∷ ys))) whole ∙ ap lines (append_assoc front (10 ∷ rest) (10 ∷ ys)) ∙ line_before front (rest ++ (10 ∷ ys)) no_feed ∙ ap (λ (l : List (List ℕ)). strip_carriage_return front ∷ l) later.1,
        ap suc later.2 ∙ sym (ap length (slice_split_first is_feed xs 0 less)),
        All-cons Unmarked (strip_carriage_return front) later.0 (first_unmarked xs front (10 ∷ rest) free whole) later.3,
      )

  skips : (n : ℕ) (xs ys : List ℕ) → length xs ≤ n → IsUnmarked m xs → Skips xs ys
  skips zero xs ys l free = one_line xs ys free (omega (arith, l))
  skips (suc n) xs ys l free = elim (cases_lt (position_or_len is_feed xs) (length xs)) [
    | inr none ↦ one_line xs ys free none
    | inl less ↦ (
        let whole = split_at_first is_feed xs 0 less in
        one_more xs ys free less (skips n (after_first is_feed xs) ys (omega (arith, l, ap length whole, length-append (before_first is_feed xs) (get_or xs (position_or_len is_feed xs) 0 ∷ after_first is_feed xs))) (rest_unmarked xs (before_first is_feed xs) (after_first is_feed xs) _ free whole)))
  ]

  module _ (text : List ℕ) (n : ℕ) (within : n ≤ length text) (free : IsUnmarked m (take n text)) where
    pub skipped : (end count : ℕ) → IsLastByte (is_byte 10) (take n text) (Some end) → count ≡ count_by is_feed (take end (take n text)) → SkipsLines m text (count + 1) (take (length text - (end + 1)) (drop (end + 1) text))
    skipped end count last counted =
        let size : length (take n text) ≡ n = length-take-le n text within in
        let less : end < n = omega (arith, last.0.high, size) in
        let front = take end (take n text) in
        let rest = drop (end + 1) text in
        let given : take (length text - (end + 1)) rest ≡ rest = take_rest text (end + 1) in
        let feed : get_or text end 0 ≡ 10 = sym (get_or-take n text end 0 less) ∙ eqb-true _ 10 last.1 in
        let whole : text ≡ front ++ (10 ∷ rest) = sym (take-append-drop end text) ∙ ap (λ (l : List ℕ). l ++ drop end text) (sym (take-take end n text (omega (arith, less)))) ∙ ap (λ (l : List ℕ). front ++ l) (drop_more text end 0 (omega (arith, less, within)) ∙ ap (λ (c : ℕ). c ∷ rest) feed) in
        let inner : take n text ≡ front ++ drop end (take n text) = sym (take-append-drop end (take n text)) in
        let all = skips (length front) front rest (omega arith) (λ before part after is. free before part (after ++ drop end (take n text)) (inner ∙ ap (λ (l : List ℕ). l ++ drop end (take n text)) is ∙ append_assoc before (part ++ after) (drop end (take n text)) ∙ ap (λ (l : List ℕ). before ++ l) (append_assoc part after (drop end (take n text))))) in
        let number : count + 1 ≡ length all.0 = ap (λ (k : ℕ). k + 1) counted ∙ sym (length-slice_split is_feed front) ∙ sym all.2 in
        record {
          before = all.0;
          is = ap lines whole ∙ all.1 ∙ ap (λ (l : List ℕ). all.0 ++ lines l) (sym given);
          counted = number;
          unmarked = all.3;
          smaller = omega (arith, ap length whole, ap length given, length-append front (10 ∷ rest), counted, count_by-le-length is_feed front);
        }

  -- the same of a first block
  module _ (text : List ℕ) (size n end count : ℕ) where
    pub skipped_block : n ≤ length (take size text) → IsUnmarked m (take n (take size text)) → IsLastByte (is_byte 10) (take n (take size text)) (Some end) → count ≡ count_by is_feed (take end (take n (take size text))) → SkipsLines m text (count + 1) (take (length text - (end + 1)) (drop (end + 1) text))
    skipped_block within free last counted =
        let same : take n (take size text) ≡ take n text = take-take n size text (omega (arith, within, length-take size text)) in
        skipped text n (omega (arith, within, length-take size text)) (subst (IsUnmarked m) same free) end count (subst (λ (l : List ℕ). IsLastByte (is_byte 10) l (Some end)) same last) (counted ∙ ap (λ (l : List ℕ). count_by is_feed (take end l)) same)

  -- one block after another
  pub skipped_on : (text rest after : List ℕ) (count more : ℕ) → SkipsLines m text count rest → SkipsLines m rest more after → SkipsLines m text (count + more) after
  skipped_on text rest after count more a b = record {
    before = a.before ++ b.before;
    is = a.is ∙ ap (λ (l : List (List ℕ)). a.before ++ l) b.is ∙ sym (append_assoc a.before b.before (lines after));
    counted = omega (arith, a.counted, b.counted, length-append a.before b.before);
    unmarked = All-append Unmarked a.before b.before a.unmarked b.unmarked;
    smaller = omega (arith, a.smaller, b.smaller);
  }

-- line feeds counted in one part after another
pub counted_on : (text rest : List ℕ) (n count few : ℕ) → few ≡ count_by is_feed (take n rest) → count + count_by is_feed rest ≡ count_by is_feed text → count + few + count_by is_feed (take (length rest - n) (drop n rest)) ≡ count_by is_feed text
counted_on text rest n count few here all =
    let given : take (length rest - n) (drop n rest) ≡ drop n rest = take_rest rest n in
    let parts : count_by is_feed (take n rest) + count_by is_feed (drop n rest) ≡ count_by is_feed rest = sum_by-take-drop (λ c. cond (is_feed c) 1 0) rest n in
    let left : count_by is_feed (take (length rest - n) (drop n rest)) ≡ count_by is_feed (drop n rest) = ap (count_by is_feed) given in
    omega (arith, here, all, parts, left)
