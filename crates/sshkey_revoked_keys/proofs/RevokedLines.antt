-- Where lines end: at a line feed.
use Rattle.std.proofs.Common.{◌≡◌, ℕ, ◌<◌, ◌+◌, List, [], ◌∷◌, ◌++◌, length, take, drop, map, filter, position, Bool, true, ◌==◌, cond, Some, None, sym, ap, ◌∙◌, refl, arith, eqb-true, length-append, Result, Ok, Err, Vec, inl, inr, subst, ◌⊎◌, zero, suc, slice_index_or, false, ◌||◌, Global, bytes_eq}
use Rattle.std.specs.List.{slice_split, Any}
use Rattle.std.proofs.lemmas.List.Splits.{slice_split_at, slice_split_none}
use Rattle.sshkey_entries.specs.Entries.{is_line_end}
use Rattle.sshkey_entries.specs.Fields.{is_filled, without_blanks, without_front, CutsField, CutsWord}
use Rattle.sshkey_matching.proofs.PatternLists.{none_there}
use Rattle.sshkey_entries.proofs.ByteLines.{at_end}
use Rattle.sshkey_revoked_keys.specs.RevokedKeys.{is_line_feed, revoked_lines, HasNamedFault, NeedsKey, SaysKey, BeginsWithWord, HasLineFault, NeedsEntry, RevokesKey, is_certified_name, has_key}
use Rattle.std.specs.Str.{IsUtf8}
use Rattle.sshkey_base.specs.declared.encoding.Error.TheVariants.{CharacterEncoding, Length}
use Rattle.sshkey_base.specs.declared.error.Error.{Error}
use Rattle.sshkey_base.specs.declared.error.Error.TheVariants.{Encoding}
use Rattle.sshkey_entries.specs.Answers.{AsksEntry, ReadsEntry, RefusesFor, AreEntries}
use Rattle.sshkey_entries.proofs.KeyFields.{fields_are}
use Rattle.sshkey_entries.proofs.Fields.{same_cut, same_field}
use Rattle.sshkey_revoked_keys.proofs.NamedWords.{no_key, one_said, said_texts}
use Rattle.std.proofs.lemmas.Slice.Eq.{bytes_eq-Decides}
use Rattle.std.proofs.Math.Bool.{or-true}

step : (text filled line : List ℕ) (more : List (List ℕ)) → slice_split is_line_feed text ≡ line ∷ more → filled ≡ without_blanks line → revoked_lines text ≡ cond (is_filled filled) (filled ∷ filter is_filled (map without_blanks more)) (filter is_filled (map without_blanks more))
unfolding revoked_lines
step text filled line more e is =
    ap (λ (all : List (List ℕ)). filter is_filled (map without_blanks all)) e
    ∙ (λ i. let left = filter is_filled (map without_blanks more) in cond (is_filled (sym is i)) (sym is i ∷ left) left)

module _ (text filled line after : List ℕ) (n : ℕ) (at : Some n ≡ position is_line_end text) (front : line ≡ take n text) (rest : after ≡ drop (n + 1) text) where
  whole : text ≡ take n text ++ (10 ∷ after)
  whole = (at_end text n at).0 ∙ ap (λ (r : List ℕ). take n text ++ (10 ∷ r)) (sym rest)

  pub line_first : filled ≡ without_blanks line → revoked_lines text ≡ cond (is_filled filled) (filled ∷ revoked_lines after) (revoked_lines after)
  unfolding revoked_lines
  line_first is = step text filled line (slice_split is_line_feed after) (ap (slice_split is_line_feed) whole ∙ slice_split_at is_line_feed (take n text) 10 after (at_end text n at).1 refl ∙ ap (λ (l : List ℕ). l ∷ slice_split is_line_feed after) (sym front)) is

  pub less_left : length after < length text
  less_left = omega (arith, ap length whole, length-append (take n text) (10 ∷ after))

none_left : revoked_lines [] ≡ []
unfolding revoked_lines without_front
none_left = refl

pub line_last : (text filled : List ℕ) → None ≡ position is_line_end text → filled ≡ without_blanks text → revoked_lines text ≡ cond (is_filled filled) (filled ∷ revoked_lines []) (revoked_lines [])
line_last text filled none is =
    step text filled text [] (slice_split_none is_line_feed text (none_there is_line_end text none)) is
    ∙ (λ i. cond (is_filled filled) (filled ∷ sym none_left i) (sym none_left i))

pub first_left : (text line rest : List ℕ) (filled : Bool) → revoked_lines text ≡ cond (is_filled line) (line ∷ revoked_lines rest) (revoked_lines rest) → filled ≡ is_filled line → filled ≡ true → revoked_lines text ≡ line ∷ revoked_lines rest
first_left text line rest filled is judged e = is ∙ ap (λ (b : Bool). cond b (line ∷ revoked_lines rest) (revoked_lines rest)) (sym judged ∙ e)

pub nothing_left : (rest : List ℕ) (empty : Bool) → empty ≡ (length rest == 0) → empty ≡ true → revoked_lines rest ≡ []
nothing_left [] empty judged e = none_left
nothing_left (c ∷ rest) empty judged e = let none : length (c ∷ rest) ≡ 0 = eqb-true _ 0 (sym judged ∙ e) in absurd (omega (arith, none))

-- What a line is read as.

pub begins : (line name after skipped word rest : List ℕ) → CutsField line name after → skipped ≡ without_blanks after → CutsWord skipped word rest → BeginsWithWord line name word
begins line name after skipped word rest first skips second = record { rest = rest; fields = fields_are line name after skipped word rest first skips second }

-- the same where the name and the word were read as texts
pub begins_as : (line name after skipped word rest n w : List ℕ) → CutsField line name after → skipped ≡ without_blanks after → CutsWord skipped word rest → n ≡ name → w ≡ word → BeginsWithWord line n w
begins_as line name after skipped word rest n w first skips second same_name same_word =
    subst (λ (t : List ℕ). BeginsWithWord line t w) (sym same_name) (begins line name after skipped w rest first skips (subst (λ (v : List ℕ). CutsWord skipped v rest) (sym same_word) second))

pub some_text : (word w : List ℕ) → w ≡ word → 0 < length word → 0 < length w
some_text word w same some = omega (arith, some, ap length same)

-- A line begins with one name and one word.
one_begin : (line n w m v : List ℕ) → BeginsWithWord line n w → BeginsWithWord line m v → (n ≡ m) × (w ≡ v)
one_begin line n w m v a b =
    let names = same_field n m a.fields.after b.fields.after a.fields.first.one_word b.fields.first.one_word a.fields.first.ends b.fields.first.ends (sym a.fields.first.is ∙ b.fields.first.is) in
    (names.0, (same_cut (without_blanks b.fields.after) w v a.rest b.rest (subst (λ (t : List ℕ). CutsWord (without_blanks t) w a.rest) names.1 a.fields.second) b.fields.second).0)

module _ (line name word : List ℕ) (begin : BeginsWithWord line name word) where
  said_here : (key : List ℕ) → RevokesKey line key → SaysKey (is_certified_name name) name word key
  said_here key r =
      let same = one_begin line r.name r.word name word r.begins begin in
      subst (λ (n : List ℕ). SaysKey (is_certified_name n) n word key) same.0 (subst (λ (w : List ℕ). SaysKey (is_certified_name r.name) r.name w key) same.1 r.says)

  -- ---- no word

  module _ (none : length word ≡ 0) where
    empty : (w : List ℕ) → length w ≡ 0 → w ≡ []
    empty [] e = refl
    empty (c ∷ w) e = absurd (omega (arith, e))

    pub no_word_said : (key : List ℕ) → RevokesKey line key → ⊥
    no_word_said key r = no_key (is_certified_name name) name key (subst (λ (w : List ℕ). SaysKey (is_certified_name name) name w key) (empty word none) (said_here key r))

    pub no_word_fault : HasLineFault line (Encoding Length)
    no_word_fault = record {
      no_word = λ n b. refl;
      no_text = λ n w b some _. absurd (omega (arith, some, none, ap length (one_begin line n w name word b begin).1));
      no_key = λ n w b some _. absurd (omega (arith, some, none, ap length (one_begin line n w name word b begin).1));
    }

  -- ---- no text

  same_texts : (n w : List ℕ) → BeginsWithWord line n w → IsUtf8 n × IsUtf8 w → IsUtf8 name × IsUtf8 word
  same_texts n w b texts =
      let same = one_begin line n w name word b begin in
      (subst IsUtf8 same.0 texts.0, subst IsUtf8 same.1 texts.1)

  module _ (none : ¬ (IsUtf8 name × IsUtf8 word)) where
    pub no_text_said : (key : List ℕ) → RevokesKey line key → ⊥
    no_text_said key r = none (said_texts (is_certified_name name) name word key (said_here key r))

    pub no_text_fault : 0 < length word → HasLineFault line (Encoding CharacterEncoding)
    no_text_fault some = record {
      no_word = λ n b. absurd (omega (arith, some, ap length (one_begin line n [] name word b begin).1));
      no_text = λ n w b _ _. refl;
      no_key = λ n w b _ texts. absurd (none (same_texts n w b texts));
    }

  -- ---- a word

  module _ (certified : Bool) (is : is_certified_name name ≡ certified) {Z : Type 0} where
    pub line_reads : (r : Result (Vec ℕ Z) Error) → ReadsEntry (λ v. v.items) (SaysKey certified name) word r → ReadsEntry (λ v. v.items) RevokesKey line r
    line_reads (Ok v) says = record { name = name; word = word; begins = begin; says = subst (λ (b : Bool). SaysKey b name word v.items) (sym is) says }
    line_reads (Err e) none = λ other key r. none other key (subst (λ (b : Bool). SaysKey b name word key) is (said_here key r))

    pub line_refuses : (r : Result (Vec ℕ Z) Error) → 0 < length word → IsUtf8 name × IsUtf8 word → RefusesFor (HasNamedFault certified name) word r → RefusesFor HasLineFault line r
    line_refuses (Ok v) some texts fault = tt
    line_refuses (Err e) some texts fault = λ other. record {
      no_word = λ n b. absurd (omega (arith, some, ap length (one_begin line n [] name word b begin).1));
      no_text = λ n w b _ none.
          let same = one_begin line name word n w begin b in
          absurd (none (subst IsUtf8 same.0 texts.0, subst IsUtf8 same.1 texts.1));
      no_key = λ n w b _ _.
          let same = one_begin line name word n w begin b in
          subst (λ (m : List ℕ). HasNamedFault (is_certified_name m) m w e) same.0 (subst (λ (v : List ℕ). HasNamedFault (is_certified_name name) name v e) same.1 (subst (λ (b : Bool). HasNamedFault b name word e) (sym is) (fault other)));
    }

    pub line_asks : (r : Result (Vec ℕ Z) Error) → AsksEntry (NeedsKey certified name) word r → AsksEntry NeedsEntry line r
    line_asks (Ok v) needs = tt
    line_asks (Err e) needs = λ memory. elim (subst (λ (b : Bool). NeedsKey b name word) (sym is) (needs memory)) [
      | inl said ↦ inl (said.0, record { name = name; word = word; begins = begin; says = said.1 })
      | inr bytes ↦ inr (record { name = name; word = word; begins = begin; needed = bytes })
    ]

-- A line revokes one key.
pub one_key : (line a b : List ℕ) → RevokesKey line a → RevokesKey line b → a ≡ b
one_key line a b r s = one_said (is_certified_name r.name) r.name r.word a b r.says (said_here line r.name r.word r.begins b s)

-- The keys of lines, and the lines that revoke a key.

module _ (key : List ℕ) where
  abbrev Revokes : List ℕ → Type 0
  Revokes line = RevokesKey line key

  abbrev AreOf : List (List ℕ) → List (Vec ℕ Global) → Type 0
  AreOf lines keys = AreEntries (λ (v : Vec ℕ Global). v.items) RevokesKey lines keys

  after : (line : List ℕ) (lines : List (List ℕ)) → Any Revokes lines → Any Revokes (line ∷ lines)
  after line lines a = (suc a.0, a.1, omega (arith, a.2), a.3, a.4)

  at_place : (line : List ℕ) (lines : List (List ℕ)) (k : ℕ) (x : List ℕ) → k < length (line ∷ lines) → slice_index_or (line ∷ lines) k x ≡ x → Revokes x → Revokes line ⊎ Any Revokes lines
  at_place line lines zero x l e r = inl (subst Revokes (sym e) r)
  at_place line lines (suc k) x l e r = inr (k, x, omega (arith, l), e, r)

  same : (a : List ℕ) (b : Bool) → bytes_eq a key ≡ b → (a ≡ key) ⊎ (b ≡ false)
  same a true e = inl ((bytes_eq-Decides a key).0 e)
  same a false e = inr refl

  pub line_found : (lines : List (List ℕ)) (keys : List (Vec ℕ Global)) → AreOf lines keys → has_key keys key ≡ true → Any Revokes lines
  line_found [] [] are has = absurd (cc has)
  line_found [] (v ∷ keys) are has = absurd are
  line_found (line ∷ lines) [] are has = absurd are
  line_found (line ∷ lines) (v ∷ keys) are has = elim (same v.items (bytes_eq v.items key) refl) [
    | inl is ↦ (0, line, omega arith, refl, subst (λ (k : List ℕ). RevokesKey line k) is are.0)
    | inr other ↦ after line lines (line_found lines keys are.1 (subst (λ (b : Bool). (b || has_key keys key) ≡ true) other has))
  ]

  pub key_found : (lines : List (List ℕ)) (keys : List (Vec ℕ Global)) → AreOf lines keys → Any Revokes lines → has_key keys key ≡ true
  key_found [] keys are a = absurd (omega (arith, a.2))
  key_found (line ∷ lines) [] are a = absurd are
  key_found (line ∷ lines) (v ∷ keys) are a = elim (at_place line lines a.0 a.1 a.2 a.3 a.4) [
    | inl here ↦ subst (λ (b : Bool). (b || has_key keys key) ≡ true) (sym ((bytes_eq-Decides v.items key).1 (one_key line v.items key are.0 here))) refl
    | inr more ↦ subst (λ (b : Bool). (bytes_eq v.items key || b) ≡ true) (sym (key_found lines keys are.1 more)) (or-true (bytes_eq v.items key))
  ]

pub either : (a b : Bool) → (a || b) ≡ true → (a ≡ true) ⊎ (b ≡ true)
either true b e = inl refl
either false b e = inr e

pub left : (a b : Bool) → a ≡ true → (a || b) ≡ true
left a b e = subst (λ (t : Bool). (t || b) ≡ true) (sym e) refl

pub right : (a b : Bool) → b ≡ true → (a || b) ≡ true
right a b e = subst (λ (t : Bool). (a || t) ≡ true) (sym e) (or-true a)
