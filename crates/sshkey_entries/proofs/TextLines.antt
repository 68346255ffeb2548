-- The lines of a text, one by one, and what they leave of its entries.
use Rattle.std.proofs.Common.{◌≡◌, ◌≢◌, ℕ, ◌<◌, ◌≤◌, ◌+◌, ◌-◌, List, [], ◌∷◌, ◌++◌, length, get_or, take, drop, filter, Bool, true, false, cond, eqb, sym, ap, subst, ◌∙◌, refl, arith, inl, inr, ⊎_elim, eqb-true, eq-eqb, ne_eqb, length-drop, take-append-drop, take_all, lt-ltb, nat_lt, Some, ◌⊎◌, append_assoc, map}
use Rattle.std.proofs.lemmas.Bool.{cases_lt, eqb-false}
use Rattle.std.specs.Prelude.{⊤}
use Rattle.std.specs.Iterator.{MakesProgress, item_count}
use Rattle.std.proofs.lemmas.Grind.{common_steps}
use Rattle.std.proofs.lemmas.List.{nil_from_length, length-append, take-append-le}
use Rattle.std.proofs.lemmas.List.Elements.{All-from_get_or}
use Rattle.std.proofs.lemmas.List.Splits.{slice_split_none, slice_split_at, length-slice_split}
use Rattle.std.proofs.lemmas.Str.{NoCharPasses-byte}
use Rattle.std.specs.List.{All, slice_split, AllZip}
use Rattle.std.specs.Char.{is_newline, encode_utf8}
use Rattle.std.specs.Str.{NoCharPasses}
use Rattle.std.specs.Str.Lines.{IsFirstLine, StripsCarriageReturn, lines, lines_of_parts, strip_carriage_return}
use Rattle.sshkey_entries.specs.Entries.{entry_lines, uncommented, is_some_text}
use Rattle.sshkey_entries.specs.Answers.{AreEntries, NeedsFirstLine}
use Rattle.sshkey_entries.specs.Fields.{without_blanks, is_filled, filled_lines}

abbrev is_end : ℕ → Bool
is_end c = eqb c 10

no_end : (bs : List ℕ) → NoCharPasses is_newline bs → All (λ c. is_end c ≡ false) bs
no_end bs h = All-from_get_or (λ c. is_end c ≡ false) bs 0 (λ i l. ne_eqb (get_or bs i 0) 10 (λ e. cc (sym (ap is_newline e) ∙ NoCharPasses-byte is_newline bs i h l (omega (arith, e)))))

stripped : (l x : List ℕ) → StripsCarriageReturn l x → strip_carriage_return l ≡ x
stripped [] x (inl h) = sym h.0
stripped (b ∷ l) x (inl h) = ap (λ (t : Bool). cond t (take (length (b ∷ l) - 1) (b ∷ l)) (b ∷ l)) (ne_eqb _ 13 (h.1 (omega arith))) ∙ sym h.0
stripped l x (inr e) =
    let last : get_or l (length l - 1) 0 ≡ 13 = grind (arith, common_steps) in
    let front : take (length l - 1) l ≡ x = grind (arith, common_steps) in
    ap (λ (t : Bool). cond t (take (length l - 1) l) l) (eq-eqb _ 13 last) ∙ front

pub more_lines : (x : List ℕ) (parts : List (List ℕ)) → 0 < length parts → lines_of_parts (x ∷ parts) ≡ strip_carriage_return x ∷ lines_of_parts parts
more_lines x [] some = absurd (omega arith)
more_lines x (y ∷ more) some = refl

-- what a step of `lines` takes off is the first line
pub lines_first : (text line rest : List ℕ) → 0 < length text → IsFirstLine text line rest → lines text ≡ line ∷ lines rest
unfolding encode_utf8
lines_first text line rest some h = ⊎_elim inside at_end (cases_lt h.0 (length text))
  where
    front : All (λ c. is_end c ≡ false) (take h.0 text)
    front = no_end (take h.0 text) h.1

    inside : h.0 < length text → lines text ≡ line ∷ lines rest
    inside l =
        let o = h.2 (omega (arith, length-drop h.0 text)) in
        let after : drop h.0 text ≡ 10 ∷ rest = o.2 ∙ ap (λ (c : ℕ). encode_utf8 c ++ rest) (eqb-true o.0 10 o.1) in
        ap lines (sym (take-append-drop h.0 text) ∙ ap (λ (v : List ℕ). take h.0 text ++ v) after)
        ∙ ap lines_of_parts (slice_split_at is_end (take h.0 text) 10 rest front refl)
        ∙ more_lines (take h.0 text) (slice_split is_end rest) (omega (arith, length-slice_split is_end rest))
        ∙ ap (λ (v : List ℕ). v ∷ lines rest) (stripped (take h.0 text) line (h.5 l))

    at_end : length text ≤ h.0 → lines text ≡ line ∷ lines rest
    at_end l =
        let size : h.0 + length rest ≤ length text = h.3 in
        let nothing : [] ≡ rest = sym (nil_from_length rest (omega arith)) in
        ap lines_of_parts (slice_split_none is_end text (subst (All (λ c. is_end c ≡ false)) (take_all h.0 text l) front))
        ∙ ap (λ (t : Bool). cond t [] (text ∷ [])) (ne_eqb (length text) 0 (λ z. omega arith))
        ∙ (λ i. sym (h.4 (omega arith)) i ∷ lines (nothing i))

-- a line with no entry leaves the lines, and another is the first of them
lines_step : (text line rest : List ℕ) → lines text ≡ line ∷ lines rest → entry_lines text ≡ cond (is_some_text (uncommented line)) (line ∷ entry_lines rest) (entry_lines rest)
lines_step text line rest e = ap (filter (λ (l : List ℕ). is_some_text (uncommented l))) e

-- The first line of a text, and what is left of it.
module _ (text line rest entry : List ℕ) (some : 0 < length text) (is_first : IsFirstLine text line rest) (is : entry ≡ uncommented line) (empty : Bool) (judged : empty ≡ eqb (length entry) 0) where
  taken : entry_lines text ≡ cond (is_some_text entry) (line ∷ entry_lines rest) (entry_lines rest)
  taken = lines_step text line rest (lines_first text line rest some is_first) ∙ ap (λ (x : List ℕ). cond (is_some_text x) (line ∷ entry_lines rest) (entry_lines rest)) (sym is)

  pub line_taken : empty ≡ false → entry_lines text ≡ line ∷ entry_lines rest
  line_taken full =
      let other : length entry ≢ 0 = eqb-false (length entry) 0 (sym judged ∙ full) in
      taken ∙ ap (λ (b : Bool). cond b (line ∷ entry_lines rest) (entry_lines rest)) (lt-ltb 0 (length entry) (omega arith))

  pub line_skipped : empty ≡ true → entry_lines text ≡ entry_lines rest
  line_skipped none =
      let zero : length entry ≡ 0 = eqb-true (length entry) 0 (sym judged ∙ none) in
      taken ∙ ap (λ (n : ℕ). cond (nat_lt 0 n) (line ∷ entry_lines rest) (entry_lines rest)) zero

-- the rest has fewer lines
pub fewer_lines : (text line rest : List ℕ) → 0 < length text → IsFirstLine text line rest → length (lines rest) < length (lines text)
fewer_lines text line rest some is_first = omega (arith, ap length (lines_first text line rest some is_first))

-- an answered entry leaves fewer
pub fewer_left : {X : Type 0} (answer : X) (old new : List (List ℕ)) (entry : List ℕ) → old ≡ entry ∷ new → MakesProgress (λ _. ⊤) (item_count (λ left. left)) old (Some answer) new
fewer_left answer old new entry e = record { on = λ _. (tt, tt, omega (arith, ap length e)); keeps = tt; rests = λ _. tt }

-- ---- the entry of a line

-- a front of a front
pub front_of_front : (line before entry : List ℕ) (p n : ℕ) → before ≡ take p line → entry ≡ take n before → n ≤ length before → (entry ≡ take n line) × (n ≤ length line)
front_of_front line before entry p n is front l =
    let whole : before ++ drop p line ≡ line = ap (λ (b : List ℕ). b ++ drop p line) is ∙ take-append-drop p line in
    (front ∙ sym (take-append-le n before (drop p line) l) ∙ ap (take n) whole, omega (arith, l, ap length whole, length-append before (drop p line)))

-- What calls of an iterator over entries gave, in order.

module _ {X : Type 0} (R : List ℕ → X → Type 0) where
  zip_push : (all : List (List ℕ)) (xs : List X) (entry : List ℕ) (x : X) → AllZip R all xs → R entry x → AllZip R (all ++ (entry ∷ [])) (xs ++ (x ∷ []))
  zip_push [] [] entry x h r = (r, tt)
  zip_push [] (y ∷ ys) entry x h r = absurd h
  zip_push (a ∷ all) [] entry x h r = absurd h
  zip_push (a ∷ all) (y ∷ ys) entry x h r = (h.0, zip_push all ys entry x h.1 r)

  -- one more answer, to the first entry of those that were left
  pub answered_more : (all before left rest : List (List ℕ)) (xs : List X) (entry : List ℕ) (x : X) → all ≡ before ++ left → AllZip R before xs → left ≡ entry ∷ rest → R entry x
      → (now : List (List ℕ)) × (all ≡ now ++ rest) × AllZip R now (xs ++ (x ∷ []))
  answered_more all before left rest xs entry x e h first r = (
    before ++ (entry ∷ []),
    e ∙ ap (λ (l : List (List ℕ)). before ++ l) first ∙ sym (append_assoc before (entry ∷ []) rest),
    zip_push before xs entry x h r,
  )

-- Lines were read, so that the first has a value; or none was, and the next has a value or needs
-- memory.
pub needed_first : {X Y : Type 0} (means : X → Y) (IsEntry : List ℕ → Y → Type 0) (Needs : List ℕ → Type 0) (all before left rest : List (List ℕ)) (xs : List X) (line : List ℕ) → all ≡ before ++ left → AreEntries means IsEntry before xs → left ≡ line ∷ rest
    → ((y : Y) × IsEntry line y) ⊎ Needs line → NeedsFirstLine IsEntry Needs all
needed_first means IsEntry Needs all [] left rest xs line e read next need = subst (NeedsFirstLine IsEntry Needs) (sym (e ∙ next)) need
needed_first means IsEntry Needs all (first ∷ before) left rest [] line e read next need = absurd read
needed_first means IsEntry Needs all (first ∷ before) left rest (x ∷ xs) line e read next need = subst (NeedsFirstLine IsEntry Needs) (sym e) (inl (means x, read.0))

-- The lines of a text that are neither empty nor comments, one by one.

module _ (text line rest filled : List ℕ) (some : 0 < length text) (is_first : IsFirstLine text line rest) (is : filled ≡ without_blanks line) where
  step : filled_lines text ≡ cond (is_filled filled) (filled ∷ filled_lines rest) (filled_lines rest)
  step =
      ap (λ (all : List (List ℕ)). filter is_filled (map without_blanks all)) (lines_first text line rest some is_first)
      ∙ ap (λ (l : List ℕ). cond (is_filled l) (l ∷ filled_lines rest) (filled_lines rest)) (sym is)

  pub filled_taken : is_filled filled ≡ true → filled_lines text ≡ filled ∷ filled_lines rest
  filled_taken e = step ∙ ap (λ (b : Bool). cond b (filled ∷ filled_lines rest) (filled_lines rest)) e

  pub filled_skipped : is_filled filled ≡ false → filled_lines text ≡ filled_lines rest
  filled_skipped e = step ∙ ap (λ (b : Bool). cond b (filled ∷ filled_lines rest) (filled_lines rest)) e
