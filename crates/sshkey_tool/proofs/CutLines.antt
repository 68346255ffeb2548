-- Where lines are cut short: within one of them, after those before it.
use Rattle.std.proofs.Common.{◌≡◌, ◌<◌, ◌+◌, ◌-◌, inl, inr, ℕ, List, [], ◌∷◌, ◌++◌, map, length, take, Bool, refl, sym, ap, ◌∙◌, append_assoc, arith, length-append}
use Rattle.std.specs.List.{AllZip}
use Rattle.std.proofs.lemmas.Bool.{cases_lt}
use Rattle.std.proofs.lemmas.List.{take-append-le}
use Rattle.std.proofs.Math.Seq.{take-append-add}
use Rattle.sshkey_tool.specs.Lines.{ShowsEntry, in_lines, line_end}

abbrev pub texts_of : List (List ℕ × Bool) → List ℕ
texts_of lines = in_lines (map (λ l. l.0) lines)

-- the first line, and so much of what follows
take_further : (line rest front last : List ℕ) (count k : ℕ) → count ≡ length (line ++ line_end) + k → take k rest ≡ front ++ last → take count (line ++ (line_end ++ rest)) ≡ (line ++ (line_end ++ front)) ++ last
take_further line rest front last count k place is =
    ap (take count) (sym (append_assoc line line_end rest))
    ∙ ap (λ (n : ℕ). take n ((line ++ line_end) ++ rest)) place
    ∙ take-append-add (line ++ line_end) rest k
    ∙ ap (λ (t : List ℕ). (line ++ line_end) ++ t) is
    ∙ sym (append_assoc (line ++ line_end) front last)
    ∙ ap (λ (t : List ℕ). t ++ last) (append_assoc line line_end front)

length_further : (line rest : List ℕ) → length (line ++ (line_end ++ rest)) ≡ length (line ++ line_end) + length rest
length_further line rest = ap length (sym (append_assoc line line_end rest)) ∙ length-append (line ++ line_end) rest

-- so much of the first line
take_within : (line rest : List ℕ) (count : ℕ) → count < length (line ++ line_end) → take count (line ++ (line_end ++ rest)) ≡ take count (line ++ line_end)
take_within line rest count below =
    ap (take count) (sym (append_assoc line line_end rest)) ∙ take-append-le count (line ++ line_end) rest (omega (arith, below))

module _ {Y : Type 0} (IsEntry : List ℕ → Y → Type 0) (text_of : Y → List ℕ) where
  -- The first `count` bytes of the lines end within the line of an entry.
  pub record EndsWithin (given : List (List ℕ)) (shown : List ℕ) (count : ℕ) : Type 0 where
    pub before : List (List ℕ)
    pub entry : List ℕ
    pub rest : List (List ℕ)
    pub are : given ≡ before ++ (entry ∷ rest)
    pub lines : List (List ℕ × Bool)
    pub each : AllZip (ShowsEntry IsEntry text_of) before lines
    pub line : List ℕ
    pub refused : Bool
    pub shows : ShowsEntry IsEntry text_of entry (line, refused)
    pub within : ℕ
    pub below : within < length (line ++ line_end)
    pub is : take count shown ≡ texts_of lines ++ take within (line ++ line_end)

  pub ends_within : (given : List (List ℕ)) (lines : List (List ℕ × Bool)) (count : ℕ) → AllZip (ShowsEntry IsEntry text_of) given lines → count < length (texts_of lines) → EndsWithin given (texts_of lines) count
  ends_within [] [] count each below = absurd (omega arith)
  ends_within [] (l ∷ ls) count each below = absurd each
  ends_within (e ∷ es) [] count each below = absurd each
  ends_within (e ∷ es) ((l, r) ∷ ls) count each below = elim (cases_lt count (length (l ++ line_end))) [
    | inl here ↦ record {
      before = [];
      entry = e;
      rest = es;
      are = refl;
      lines = [];
      each = tt;
      line = l;
      refused = r;
      shows = each.0;
      within = count;
      below = here;
      is = take_within l (texts_of ls) count here;
    }
    | inr later ↦ (
        let k = count - length (l ++ line_end) in
        let place : count ≡ length (l ++ line_end) + k = omega (arith, later) in
        let h = ends_within es ls k each.1 (omega (arith, below, length_further l (texts_of ls), place)) in
        record {
          before = e ∷ h.before;
          entry = h.entry;
          rest = h.rest;
          are = ap (λ (l : List (List ℕ)). e ∷ l) h.are;
          lines = (l, r) ∷ h.lines;
          each = (each.0, h.each);
          line = h.line;
          refused = h.refused;
          shows = h.shows;
          within = h.within;
          below = h.below;
          is = take_further l (texts_of ls) (texts_of h.lines) (take h.within (h.line ++ line_end)) count k place h.is;
        })
  ]
