-- The lines of a text, cut off one by one.
use Rattle.std.proofs.Common.{◌≡◌, ℕ, suc, ◌<◌, ◌≤◌, ◌+◌, ◌-◌, List, [], ◌∷◌, ◌++◌, length, get_or, take, drop, filter, map, true, false, cond, refl, sym, ap, zero, subst, ◌∙◌, arith, inl, inr, append_assoc, append-nil, length-append, length-drop, take-append-drop}
use Rattle.std.proofs.Math.Seq.{drop-append-add, drop-append_seam, take-append_seam}
use Rattle.std.proofs.lemmas.List.{length-take-le}
use Rattle.std.proofs.lemmas.List.Elements.{All-from_get_or}
use Rattle.std.specs.List.{All}
use Rattle.std.specs.Str.Lines.{lines, strip_carriage_return}
use Rattle.sshkey_entries.specs.Fields.{without_blanks, is_filled, filled_lines, is_blank}
use Rattle.sshkey_entries.proofs.Fronts as fronts
use Rattle.sshkey_entries.specs.Entries.{CutsLine, IsLineEnd, is_line_end}
use Rattle.sshkey_entries.proofs.ByteLines.{AreBlanks, front_blanks, last_line, line_before, passed, step}
use Rattle.sshkey_entry_calls.specs.Entries.{FindsLine}
use Rattle.sshkey_calls.specs.declared.part.Part.{Part}

-- the end of a line is no line of its own
unfilled : (front after : List ℕ) → All (λ c. is_line_end c ≡ false) front → strip_carriage_return front ≡ [] → filled_lines (front ++ (10 ∷ after)) ≡ filled_lines after
unfilled front after none is =
    ap (λ (all : List (List ℕ)). filter is_filled (map without_blanks all)) (line_before front after none ∙ ap (λ (l : List ℕ). l ∷ lines after) is)
    ∙ ap (λ (l : List ℕ). cond (is_filled l) (l ∷ filled_lines after) (filled_lines after)) (fronts.nothing_stays is_blank)

only_return : (i : ℕ) → i < 1 → is_line_end (get_or (13 ∷ []) i 0) ≡ false
only_return zero l = refl
only_return (suc i) l = absurd (omega (arith, l))

end_skipped : (end after : List ℕ) → IsLineEnd end after → filled_lines (end ++ after) ≡ filled_lines after
end_skipped end after (inl none) = ap (λ (l : List ℕ). filled_lines (l ++ after)) none.0
end_skipped end after (inr (inl feed)) = ap (λ (l : List ℕ). filled_lines (l ++ after)) feed ∙ unfilled [] after (All-from_get_or (λ c. is_line_end c ≡ false) [] 0 (λ i l. absurd (omega (arith, l)))) refl
end_skipped end after (inr (inr both)) = ap (λ (l : List ℕ). filled_lines (l ++ after)) both ∙ unfilled (13 ∷ []) after (All-from_get_or (λ c. is_line_end c ≡ false) (13 ∷ []) 0 only_return) refl

-- nor are blanks
only_blanks : (blanks : List ℕ) → AreBlanks blanks → filled_lines blanks ≡ []
only_blanks [] are = refl
only_blanks (c ∷ blanks) are =
    ap (λ (all : List (List ℕ)). filter is_filled (map without_blanks all)) (last_line (c ∷ blanks) (omega arith) are.one_line)
    ∙ ap (λ (l : List ℕ). filter is_filled (l ∷ [])) are.skipped

-- a line with others after it has an end
has_end : (end after : List ℕ) → IsLineEnd end after → 0 < length after → 0 < length end
has_end end after (inl none) more = absurd (omega (arith, more, ap length none.1))
has_end end after (inr (inl feed)) more = omega (arith, ap length feed)
has_end end after (inr (inr both)) more = omega (arith, ap length both)

-- ---- where it is

-- what is left follows what was passed, which has none of the lines that are asked for, and has all
-- of these
pub record IsLeft (text : List ℕ) (place : ℕ) (left : List ℕ) : Type 0 where
  pub before : List ℕ
  pub is : text ≡ before ++ left
  pub later : 0 < length left → place ≤ length before
  pub same : filled_lines (drop place text) ≡ filled_lines left
  pub over : List ℕ
  pub from_place : before ≡ take place text ++ over
  pub nothing : 0 < length left → (x : List ℕ) → filled_lines (over ++ x) ≡ filled_lines x

pub left_first : (text left : List ℕ) (place : ℕ) → left ≡ drop place text → IsLeft text place left
left_first text left place is = record {
  before = take place text;
  is = sym (take-append-drop place text) ∙ ap (λ (l : List ℕ). take place text ++ l) (sym is);
  later = λ some. omega (arith, some, ap length is, length-drop place text, ap length (take-append-drop place text), length-append (take place text) (drop place text));
  same = ap filled_lines (sym is);
  over = [];
  from_place = sym (append-nil (take place text));
  nothing = λ _ _. refl;
}

pub left_next : (text left line after filled : List ℕ) (place : ℕ) → 0 < length left → IsLeft text place left → CutsLine left line after → filled ≡ without_blanks line → is_filled filled ≡ false → IsLeft text place after
left_next text left line after filled place some was cut is none = record {
  before = was.before ++ (line ++ cut.end);
  is = was.is ∙ ap (λ (l : List ℕ). was.before ++ l) (cut.is ∙ sym (append_assoc line cut.end after)) ∙ sym (append_assoc was.before (line ++ cut.end) after);
  later = λ _. omega (arith, was.later some, length-append was.before (line ++ cut.end));
  same = was.same ∙ passed left line after filled cut is none;
  over = was.over ++ (line ++ cut.end);
  from_place = ap (λ (l : List ℕ). l ++ (line ++ cut.end)) was.from_place ∙ append_assoc (take place text) was.over (line ++ cut.end);
  nothing = λ more x.
      ap filled_lines (append_assoc was.over (line ++ cut.end) x)
      ∙ was.nothing some ((line ++ cut.end) ++ x)
      ∙ ap filled_lines (append_assoc line cut.end x)
      ∙ step (line ++ (cut.end ++ x)) line x filled false (cut.any_after (has_end cut.end after cut.ends more) x) is none;
}

module _ (text left line after filled : List ℕ) (place : ℕ) (some : 0 < length left) (was : IsLeft text place left) (cut : CutsLine left line after) (is : filled ≡ without_blanks line) where
  abbrev blanks : List ℕ
  blanks = (front_blanks line).0

  line_is : line ≡ blanks ++ filled
  line_is = (front_blanks line).1 ∙ ap (λ (l : List ℕ). (front_blanks line).0 ++ l) (sym is)

  text_is : text ≡ (was.before ++ blanks) ++ (filled ++ (cut.end ++ after))
  text_is =
      was.is ∙ ap (λ (l : List ℕ). was.before ++ l) (cut.is ∙ ap (λ (l : List ℕ). l ++ (cut.end ++ after)) line_is ∙ append_assoc blanks filled (cut.end ++ after))
      ∙ sym (append_assoc was.before blanks (filled ++ (cut.end ++ after)))

  pub left_size : length left ≤ length text
  left_size = omega (arith, ap length was.is, length-append was.before left)

  pub filled_size : length filled ≤ length line
  filled_size = omega (arith, ap length line_is, length-append blanks filled)

  line_size : length line ≤ length left
  line_size = omega (arith, ap length cut.is, length-append line (cut.end ++ after))

  start_is : (length text - length left) + (length line - length filled) ≡ length (was.before ++ blanks)
  start_is = omega (arith, ap length was.is, length-append was.before left, ap length line_is, length-append blanks filled, length-append was.before blanks)

  content : take (length filled) (drop ((length text - length left) + (length line - length filled)) text) ≡ filled
  content = rw start_is (subst (λ (t : List ℕ). take (length filled) (drop (length (was.before ++ blanks)) t) ≡ filled) (sym text_is) (simp (drop-append_seam, take-append_seam)))

  rest : drop (((length text - length left) + (length line - length filled)) + length filled) text ≡ cut.end ++ after
  rest = rw start_is (subst (λ (t : List ℕ). drop (length (was.before ++ blanks) + length filled) t ≡ cut.end ++ after) (sym text_is) (simp (drop-append-add, drop-append_seam)))

  -- what was passed from the place on, and the blanks
  passed_is : text ≡ take place text ++ ((was.over ++ blanks) ++ (filled ++ (cut.end ++ after)))
  passed_is =
      text_is ∙ ap (λ (l : List ℕ). (l ++ blanks) ++ (filled ++ (cut.end ++ after))) was.from_place
      ∙ ap (λ (l : List ℕ). l ++ (filled ++ (cut.end ++ after))) (append_assoc (take place text) was.over blanks)
      ∙ append_assoc (take place text) (was.over ++ blanks) (filled ++ (cut.end ++ after))

  place_is : length (take place text) ≡ place
  place_is = length-take-le place text (omega (arith, was.later some, ap length was.is, length-append was.before left))

  dropped : drop place text ≡ (was.over ++ blanks) ++ (filled ++ (cut.end ++ after))
  dropped =
      ap (λ (n : ℕ). drop n text) (sym place_is)
      ∙ ap (λ (l : List ℕ). drop (length (take place text)) l) passed_is
      ∙ drop-append_seam (take place text) ((was.over ++ blanks) ++ (filled ++ (cut.end ++ after)))

  count : ((length text - length left) + (length line - length filled)) - place ≡ length (was.over ++ blanks)
  count = omega (arith, start_is, place_is, ap length was.from_place, length-append (take place text) was.over, length-append was.before blanks, length-append was.over blanks)

  none_before : filled_lines (take (((length text - length left) + (length line - length filled)) - place) (drop place text)) ≡ []
  none_before =
      ap (λ (n : ℕ). filled_lines (take n (drop place text))) count
      ∙ ap (λ (l : List ℕ). filled_lines (take (length (was.over ++ blanks)) l)) dropped
      ∙ ap filled_lines (take-append_seam (was.over ++ blanks) (filled ++ (cut.end ++ after)))
      ∙ was.nothing some blanks
      ∙ only_blanks blanks (front_blanks line).2

  pub finds : (part : Part) → is_filled filled ≡ true → FindsLine text place 0 part (record { start = (length text - length left) + (length line - length filled); length = length filled })
  finds part full = record {
    found = λ _. was.same ∙ step left line after filled true cut.first is full ∙ (λ i. sym content i ∷ sym (ap filled_lines rest ∙ end_skipped cut.end after cut.ends) i);
    within = λ _. (omega (arith, start_is, was.later some, length-append was.before blanks), omega (arith, left_size, filled_size, line_size));
    first = λ _. none_before;
    none = λ other. absurd (other refl);
    stays = λ other. absurd (other refl);
  }
