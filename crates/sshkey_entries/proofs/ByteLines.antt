-- The lines of a text, cut off one by one.
use Rattle.std.proofs.Common.{◌≡◌, ◌⊎◌, ℕ, suc, ◌<◌, ◌+◌, ◌-◌, List, [], ◌∷◌, ◌++◌, length, take, drop, slice_index, filter, map, Bool, true, false, cond, eqb, eqb-true, nat_lt, None, Option, Some, position, refl, sym, ap, lt-ltb, ne_eqb, ◌∙◌, arith, tests, inl, inr, append_assoc, append-nil, length-append, take-append-drop}
use Rattle.std.proofs.Math.ListN.{drop_of_length-le}
use Rattle.std.proofs.Math.Seq.{drop-cons}
use Rattle.std.proofs.lemmas.Bool.{le-ltb}
use Rattle.std.proofs.lemmas.List.Elements.{All-cons, All-nil}
use Rattle.std.proofs.lemmas.List.Splits.{slice_split_none, slice_split_at, length-slice_split}
use Rattle.std.proofs.lemmas.List.Sums.{position_or_len_is}
use Rattle.std.specs.List.{All, slice_split, position_or_len}
use Rattle.std.specs.Str.Lines.{lines, lines_of_parts, strip_carriage_return}
use Rattle.memchr.specs.Find.{IsFirstByte}
use Rattle.sshkey_entries.specs.Fields.{without_blanks, is_filled, filled_lines, is_blank}
use Rattle.sshkey_entries.proofs.Fronts as fronts
use Rattle.sshkey_entries.proofs.TextLines.{more_lines}
use Rattle.sshkey_matching.proofs.PatternLists.{none_before, none_there, parts_at}
use Rattle.sshkey_entries.specs.Entries.{CutsLine, IsLineEnd, is_line_end}

-- ---- where a test passes first

not_true : (b : Bool) → (b ≡ true → ⊥) → b ≡ false
not_true true other = absurd (other refl)
not_true false _ = refl

-- a first place is where a test passes first
pub first_place : (is : ℕ → Bool) (text : List ℕ) (found : Option ℕ) → IsFirstByte is text found → found ≡ position is text
first_place is text None nowhere =
    let none : position_or_len is text ≡ length text = position_or_len_is is text (length text) 0 (omega arith) (λ k l. not_true _ (nowhere k (omega arith) l)) (λ l. absurd (omega (arith, l))) in
    sym (ap (λ (n : ℕ). cond (nat_lt n (length text)) (Some n) None) none ∙ ap (λ (b : Bool). cond b (Some (length text)) None) (le-ltb (length text) (length text) (omega arith)))
first_place is text (Some place) at =
    let here : position_or_len is text ≡ place = position_or_len_is is text place 0 (omega (arith, at.0.high)) (λ k l. not_true _ (at.0.before k (omega arith) l)) (λ _. at.1) in
    sym (ap (λ (n : ℕ). cond (nat_lt n (length text)) (Some n) None) here ∙ ap (λ (b : Bool). cond b (Some place) None) (lt-ltb place (length text) at.0.high))

-- ---- blanks

-- spaces and tabs alone
pub record AreBlanks (blanks : List ℕ) : Type 0 where
  pub skipped : without_blanks blanks ≡ []
  pub one_line : All (λ c. is_line_end c ≡ false) blanks

no_blanks : AreBlanks []
no_blanks = record { skipped = fronts.nothing_stays is_blank; one_line = All-nil (λ c. is_line_end c ≡ false) }

no_end : (c : ℕ) → is_blank c ≡ true → is_line_end c ≡ false
no_end c e = grind (arith, tests)

more_blanks : (c : ℕ) (blanks : List ℕ) → is_blank c ≡ true → AreBlanks blanks → AreBlanks (c ∷ blanks)
more_blanks c blanks e are = record { skipped = fronts.skipped is_blank c blanks e ∙ are.skipped; one_line = All-cons (λ c. is_line_end c ≡ false) c blanks (no_end c e) are.one_line }

-- what is skipped stands before what is left
by_blank : (c : ℕ) (text : List ℕ) (b : Bool) → is_blank c ≡ b → (blanks : List ℕ) × (text ≡ blanks ++ without_blanks text) × AreBlanks blanks → (blanks : List ℕ) × (c ∷ text ≡ blanks ++ without_blanks (c ∷ text)) × AreBlanks blanks
by_blank c text true e more = (c ∷ more.0, ap (λ (l : List ℕ). c ∷ l) more.1 ∙ ap (λ (l : List ℕ). c ∷ (more.0 ++ l)) (sym (fronts.skipped is_blank c text e)), more_blanks c more.0 e more.2)
by_blank c text false e more = ([], sym (fronts.stays is_blank c text e), no_blanks)

pub front_blanks : (text : List ℕ) → (blanks : List ℕ) × (text ≡ blanks ++ without_blanks text) × AreBlanks blanks
front_blanks [] = ([], sym (fronts.nothing_stays is_blank), no_blanks)
front_blanks (c ∷ text) = by_blank c text (is_blank c) refl (front_blanks text)

-- ---- the first line

pub line_before : (front after : List ℕ) → All (λ c. is_line_end c ≡ false) front → lines (front ++ (10 ∷ after)) ≡ strip_carriage_return front ∷ lines after
line_before front after none =
    ap lines_of_parts (slice_split_at is_line_end front 10 after none refl)
    ∙ more_lines front (slice_split is_line_end after) (omega (arith, length-slice_split is_line_end after))

pub last_line : (text : List ℕ) → 0 < length text → All (λ c. is_line_end c ≡ false) text → lines text ≡ text ∷ []
last_line [] some none = absurd (omega arith)
last_line (c ∷ text) some none =
    ap lines_of_parts (slice_split_none is_line_end (c ∷ text) none)
    ∙ ap (λ (t : Bool). cond t [] ((c ∷ text) ∷ [])) (ne_eqb (length (c ∷ text)) 0 (λ z. omega arith))

last_part : (l : List ℕ) → 0 < length l → slice_index l (length l - 1) ≡ 13 → l ≡ take (length l - 1) l ++ (13 ∷ [])
last_part l some is =
    let one : suc (length l - 1) ≡ length l = omega (arith, some) in
    let nothing : drop (suc (length l - 1)) l ≡ [] = drop_of_length-le l {i = suc (length l - 1)} (omega (arith, one)) in
    let last : drop (length l - 1) l ≡ 13 ∷ [] = drop-cons l (length l - 1) 0 (omega (arith, some)) ∙ ap (λ (c : ℕ). c ∷ drop (suc (length l - 1)) l) is ∙ ap (λ (r : List ℕ). 13 ∷ r) nothing in
    sym (take-append-drop (length l - 1) l) ∙ ap (λ (r : List ℕ). take (length l - 1) l ++ r) last

some_by : (l : List ℕ) → slice_index l (length l - 1) ≡ 13 → 0 < length l
some_by [] e = cc e
some_by (c ∷ l) e = omega arith

stripped_by : (l : List ℕ) (b : Bool) → eqb (slice_index l (length l - 1)) 13 ≡ b → (strip_carriage_return l ≡ l) ⊎ (l ≡ strip_carriage_return l ++ (13 ∷ []))
stripped_by l false e = inl (ap (λ (b : Bool). cond b (take (length l - 1) l) l) e)
stripped_by l true e =
    let last : slice_index l (length l - 1) ≡ 13 = grind (arith, tests) in
    inr (last_part l (some_by l last) last ∙ ap (λ (x : List ℕ). x ++ (13 ∷ [])) (sym (ap (λ (b : Bool). cond b (take (length l - 1) l) l) e)))

-- the line feed, and a carriage return before it
ended : (front line : List ℕ) → line ≡ strip_carriage_return front → (strip_carriage_return front ≡ front) ⊎ (front ≡ strip_carriage_return front ++ (13 ∷ [])) → (end : List ℕ) × ((after : List ℕ) → front ++ (10 ∷ after) ≡ line ++ (end ++ after)) × ((end ≡ 10 ∷ []) ⊎ (end ≡ 13 ∷ 10 ∷ []))
ended front line is (inl same) = (10 ∷ [], λ after. ap (λ (l : List ℕ). l ++ (10 ∷ after)) (sym (is ∙ same)), inl refl)
ended front line is (inr more) = (13 ∷ 10 ∷ [], λ after. ap (λ (l : List ℕ). l ++ (10 ∷ after)) (more ∙ ap (λ (l : List ℕ). l ++ (13 ∷ [])) (sym is)) ∙ append_assoc line (13 ∷ []) (10 ∷ after), inr refl)

-- what stands before the first line feed, and after it
pub at_end : (text : List ℕ) (n : ℕ) → Some n ≡ position is_line_end text → (text ≡ take n text ++ (10 ∷ drop (n + 1) text)) × All (λ c. is_line_end c ≡ false) (take n text)
at_end text n at = (parts_at is_line_end 10 (λ c e. eqb-true c 10 e) text n at, none_before is_line_end 10 (λ c e. eqb-true c 10 e) text n at)

pub cut_at : (text line after : List ℕ) (n : ℕ) → Some n ≡ position is_line_end text → line ≡ strip_carriage_return (take n text) → after ≡ drop (n + 1) text → CutsLine text line after
cut_at text line after n at is rest =
    let parts = at_end text n at in
    let whole : text ≡ take n text ++ (10 ∷ after) = parts.0 ∙ ap (λ (r : List ℕ). take n text ++ (10 ∷ r)) (sym rest) in
    let end = ended (take n text) line is (stripped_by (take n text) (eqb (slice_index (take n text) (length (take n text) - 1)) 13) refl) in
    record {
      end = end.0;
      is = whole ∙ end.1 after;
      ends = inr end.2;
      first = ap lines whole ∙ line_before (take n text) after parts.1 ∙ ap (λ (l : List ℕ). l ∷ lines after) (sym is);
      any_after = λ _ x. ap lines (sym (end.1 x)) ∙ line_before (take n text) x parts.1 ∙ ap (λ (l : List ℕ). l ∷ lines x) (sym is);
    }

pub cut_last : (text : List ℕ) → 0 < length text → None ≡ position is_line_end text → CutsLine text text []
cut_last text some is = record {
  end = [];
  is = sym (append-nil text);
  ends = inl (refl, refl);
  first = last_line text some (none_there is_line_end text is);
  any_after = λ ended _. absurd (omega (arith, ended));
}

-- what follows the first line is shorter than the text
pub left_smaller : (text line after : List ℕ) → 0 < length text → CutsLine text line after → length after < length text
left_smaller text line after some cut = by_end cut.ends
  where
    size : length text ≡ length line + (length cut.end + length after)
    size = ap length cut.is ∙ length-append line (cut.end ++ after) ∙ ap (λ (n : ℕ). length line + n) (length-append cut.end after)

    by_end : IsLineEnd cut.end after → length after < length text
    by_end (inl none) = omega (arith, some, ap length none.1)
    by_end (inr (inl feed)) = omega (arith, size, ap length feed)
    by_end (inr (inr both)) = omega (arith, size, ap length both)

pub no_lines_left : (text : List ℕ) → length text ≡ 0 → lines text ≡ []
no_lines_left [] none = refl
no_lines_left (c ∷ text) none = absurd (omega (arith, none))

-- ---- filled lines

pub step : (text line after filled : List ℕ) (b : Bool) → lines text ≡ line ∷ lines after → filled ≡ without_blanks line → is_filled filled ≡ b → filled_lines text ≡ cond b (filled ∷ filled_lines after) (filled_lines after)
step text line after filled b first is e =
    ap (λ (all : List (List ℕ)). filter is_filled (map without_blanks all)) first
    ∙ ap (λ (l : List ℕ). cond (is_filled l) (l ∷ filled_lines after) (filled_lines after)) (sym is)
    ∙ ap (λ (t : Bool). cond t (filled ∷ filled_lines after) (filled_lines after)) e

pub passed : (text line after filled : List ℕ) → CutsLine text line after → filled ≡ without_blanks line → is_filled filled ≡ false → filled_lines text ≡ filled_lines after
passed text line after filled cut is e = step text line after filled false cut.first is e
