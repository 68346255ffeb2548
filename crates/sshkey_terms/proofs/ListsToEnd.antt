-- The readers of values up to the end take exactly the spellings.
use Rattle.std.proofs.Common.{◌≡◌, ◌≤◌, inl, inr, ℕ, zero, suc, Option, None, Some, List, [], ◌∷◌, length, Result, Ok, Err, refl, sym, ap, subst, ◌∙◌, arith}
use Rattle.std.specs.Prelude.{IsOkAnd}
use Rattle.std.proofs.lemmas.List.{length-append}
use Rattle.sshkey_model.specs.Formats.{Format, IsFormat}
use Rattle.sshkey_model.specs.Grammar.{Grammar}
use Rattle.sshkey_model.specs.Overruns.{AreLengths, OverrunsList, OverrunsWithin}
use Rattle.sshkey_model.specs.Reading.{Fault, Front, list_whole, list_within, never_at, to_end}
use Rattle.sshkey_model.specs.Counted.{SpellsEach}
use Rattle.sshkey_model.specs.ToEnd.{HasBytes, SpellsRow}
use Rattle.sshkey_model.proofs.CombinedReaders.{bind_ok, ok_is}
use Rattle.sshkey_model.proofs.Grammars.{taken_before, to_the_end}
use Rattle.sshkey_base.proofs.Lengths.{to_end_lengths}

-- ---- each as the one before it calls for

module _ {A : Type 0} {item : Option A → Format A} (laws : (before : Option A) → IsFormat (item before)) (shows : (before : Option A) → HasBytes (item before)) where
  abbrev read : Option A → Front A
  read before = (item before).read

  abbrev delimited_at : Option A → Front A
  delimited_at before = (item before).delimited_at

  abbrev onto : A → List A → Result (List A) Fault
  onto x xs = Ok (x ∷ xs)

  row_takes : (n : ℕ) (before : Option A) (b : List ℕ) (xs : List A) → list_within read n before b ≡ Ok xs → SpellsRow item before xs b
  unfolding list_within
  row_takes zero before [] xs e = subst (λ (ys : List A). SpellsRow item before ys []) (ok_is [] xs e) refl
  row_takes (suc n) before [] xs e = subst (λ (ys : List A). SpellsRow item before ys []) (ok_is [] xs e) refl
  row_takes zero before (c ∷ b) xs e = absurd cc
  row_takes (suc n) before (c ∷ b) xs e =
      let x = bind_ok (read before (c ∷ b)) _ xs e in
      let y = bind_ok (list_within read n (Some x.0.0) x.0.1) (onto x.0.0) xs x.2 in
      let t = (laws before).grammar.takes (c ∷ b) x.0.0 x.0.1 x.1 in
      subst (λ (ys : List A). SpellsRow item before ys (c ∷ b)) (ok_is (x.0.0 ∷ y.0) xs y.2) (t.0, x.0.1, t.1, row_takes n (Some x.0.0) x.0.1 y.0 y.1, t.2, t.3)

  row_again : (n : ℕ) (before : Option A) (xs : List A) (b : List ℕ) → length b ≤ n → SpellsRow item before xs b → list_within read n before b ≡ Ok xs
  unfolding list_within
  row_again zero before [] b le s = rw s refl
  row_again (suc n) before [] b le s = rw s refl
  row_again zero before (x ∷ xs) b le s =
      let some = shows before x s.0 s.2 in
      absurd (omega (arith, ap length s.4, length-append s.0 s.1))
  row_again (suc n) before (x ∷ xs) [] le s =
      let some = shows before x s.0 s.2 in
      absurd (omega (arith, ap length s.4, length-append s.0 s.1))
  row_again (suc n) before (x ∷ xs) (c ∷ b) le s =
      let some = shows before x s.0 s.2 in
      let less : length s.1 ≤ n = omega (arith, le, ap length s.4, length-append s.0 s.1) in
      let first : read before (c ∷ b) ≡ Ok (x, s.1) = ap (read before) s.4 ∙ taken_before (laws before).grammar x s.0 s.1 s.2 s.5 in
      rw (first, row_again n (Some x) xs s.1 less s.3) refl

  pub row_takes_all : (b : List ℕ) (xs : List A) (rest : List ℕ) → to_end (list_whole read) b ≡ Ok (xs, rest) → SpellsRow item None xs b × (rest ≡ [])
  row_takes_all b xs rest e =
      let x = bind_ok (list_whole read b) _ (xs, rest) e in
      let both : (x.0, []) ≡ (xs, rest) = ok_is (x.0, []) (xs, rest) x.2 in
      let is : x.0 ≡ xs = ap (λ (p : List A × List ℕ). p.0) both in
      (row_takes (length b) None b xs (rw is at x.1), sym (ap (λ (p : List A × List ℕ). p.1) both))

  pub row_alone : (xs : List A) (b : List ℕ) → SpellsRow item None xs b → to_end (list_whole read) b ≡ Ok (xs, [])
  row_alone xs b s = rw (row_again (length b) None xs b (omega arith) s) refl

  abbrev pub row_grammar : Grammar (SpellsRow item None) (to_end (list_whole read)) never_at
  row_grammar = to_the_end row_takes_all row_alone

  -- where a value ends by itself, it is read
  over_read : (over : List ℕ → ℕ → Type 0) (n : ℕ) (before : Option A) (b : List ℕ) (m : ℕ) → OverrunsWithin delimited_at over n before b m → OverrunsWithin read over n before b m
  over_read over n before [] m o = absurd o
  over_read over zero before (c ∷ b) m o = absurd o
  over_read over (suc n) before (c ∷ b) m (inl o) = inl o
  over_read over (suc n) before (c ∷ b) m (inr o) = inr (go (delimited_at before (c ∷ b)) refl o (λ x. over_read over n (Some x.0) x.1 m))
    where
      go : (r : Result (A × List ℕ) Fault) → delimited_at before (c ∷ b) ≡ r → IsOkAnd r (λ x. OverrunsWithin delimited_at over n (Some x.0) x.1 m) → ((x : A × List ℕ) → OverrunsWithin delimited_at over n (Some x.0) x.1 m → OverrunsWithin read over n (Some x.0) x.1 m) → IsOkAnd (read before (c ∷ b)) (λ x. OverrunsWithin read over n (Some x.0) x.1 m)
      go (Ok x) e o after = rw ((laws before).grammar.same (c ∷ b) x e) (after x o)
      go (Err f) e o after = absurd o

  pub row_lengths : (over : List ℕ → ℕ → Type 0) → ((before : Option A) → AreLengths (read before) over) → AreLengths (to_end (list_whole read)) (OverrunsList delimited_at over)
  row_lengths over lengths b m o = to_end_lengths lengths b m (o.0, over_read over o.0 None b m o.1)

-- ---- each alike

module _ {A : Type 0} {item : Format A} (laws : IsFormat item) (shows : HasBytes item) where
  abbrev Row : Option A → List A → List ℕ → Type 0
  Row = SpellsRow (λ _. item)

  abbrev Each : List A → List ℕ → Type 0
  Each = SpellsEach item.Spells item.delimited_at

  row_each : (before : Option A) (xs : List A) (b : List ℕ) → Row before xs b → Each xs b
  row_each before [] b s = s
  row_each before (x ∷ xs) b s = (s.0, s.1, s.2, row_each (Some x) xs s.1 s.3, s.4, s.5)

  each_row : (before : Option A) (xs : List A) (b : List ℕ) → Each xs b → Row before xs b
  each_row before [] b s = s
  each_row before (x ∷ xs) b s = (s.0, s.1, s.2, each_row (Some x) xs s.1 s.3, s.4, s.5)

  pub to_end_grammar : Grammar Each (to_end (list_whole (λ _. item.read))) never_at
  to_end_grammar = to_the_end
      (λ b xs rest e. let t = row_takes_all (λ _. laws) (λ _. shows) b xs rest e in (row_each None xs b t.0, t.1))
      (λ xs b s. row_alone (λ _. laws) (λ _. shows) xs b (each_row None xs b s))

  pub each_lengths : AreLengths (to_end (list_whole (λ _. item.read))) (OverrunsList (λ _. item.delimited_at) item.overruns)
  each_lengths = row_lengths (λ _. laws) (λ _. shows) item.overruns (λ _. laws.lengths)
