-- How readers and the spellings that they read combine.
use Rattle.std.proofs.Common.{◌≡◌, ℕ, zero, suc, ◌<◌, ◌≤◌, Option, Some, Bool, true, false, cond, ltb, List, [], ◌∷◌, ◌++◌, length, take, drop, Result, Ok, Err, refl, sym, ap, subst, ◌∙◌, bytes_eq, arith}
use Rattle.std.specs.Int.{w32}
use Rattle.std.proofs.lemmas.List.{length-append}
use Rattle.std.proofs.lemmas.Slice.Eq.{bytes_eq-Decides}
use Rattle.sshkey_model.specs.Parts.{Parts, HasLength, bytes, box, ◌&◌, flat, Fits, InRange, BoxesFit, are_bytes, each, IsPrefixFree}
use Rattle.sshkey_model.specs.Reading.{Fault, Length, FormatEncoding, ◌>>=◌, Front, Whole, whole, after_at, checked_at, checked_whole, list_within, IsChain, all_from, number_at, bytes_at, string_at, literal_from, literal_at, box_at}
use Rattle.sshkey_model.specs.Grammar.{Checks, normal_is_spelling}
pub use Rattle.sshkey_model.proofs.LawfulReaders.{Any, bind_ok, bind_assoc, done, ok_is, chosen, passed, met, bytes_fit, fit_bytes, are_bytes-append, number_bytes, fits_both, fits_first, fits_second, fits_box, fits_inside, fits_length, fits_bytes, fits_number, ReadsFront, ReadsWhole, bytes_reads, all_reads, IsWide, wide8, wide32, wide64, number_reads}
use Rattle.sshkey_model.proofs.LawfulReaders.{bind_ok, done, ok_is, met, fits_both, fits_first, fits_second, ReadsFront, ReadsWhole, bytes_reads, all_reads, Any}
use Rattle.sshkey_model.proofs.Grammars.{grammar, same_grammar, by_itself, ends, all_end, whole_spells, box_grammar, then_grammar, tested_grammar}
use Rattle.sshkey_model.proofs.Trees.{alike, leaf_tree, dependent_tree, box_tree, tested_tree, tree_reads, plain_prefix}

-- ---- boxes

pub box_reads : {A : Type 0} {Is : A → Type 0} {spell : A → Parts} {read : Whole A} → ReadsWhole Is spell read → ReadsFront Is (λ x. box (spell x)) (box_at read)
box_reads reads = tree_reads tt (box_tree leaf_tree) (box_grammar (λ b y. (λ e. let t = reads.takes b y e in record { is = t.0; fits = t.1; shape = t.2 }, λ s. rw s.shape (reads.again y s.is s.fits))))

-- the same reader, written otherwise
pub same_front : {A : Type 0} {Is : A → Type 0} {spell : A → Parts} {read other : Front A} → ReadsFront Is spell read → ((b : List ℕ) → other b ≡ read b) → ReadsFront Is spell other
same_front reads same = tree_reads {S = Unit {0}} tt leaf_tree (same_grammar (grammar reads) (λ b. sym (same b)))

pub bind_same : {A B : Type 0} (r : Result A Fault) (f g : A → Result B Fault) → ((x : A) → f x ≡ g x) → (r >>= f) ≡ (r >>= g)
bind_same (Ok x) f g h = h x
bind_same (Err d) f g h = refl

string_is_box : (n : ℕ) (b : List ℕ) → bytes_at n b ≡ cond (ltb (length b) n) (Err Length) (all_from (take n b) >>= λ x. Ok (x, drop n b))
unfolding bytes_at
string_is_box n b = ap (cond (ltb (length b) n) (Err Length)) (inside (are_bytes (take n b)) (take n b) (drop n b))
  where
    inside : (t : Bool) (x y : List ℕ) → cond t (done {A = List ℕ × List ℕ} (x, y)) (Err Length) ≡ (cond t (done x) (Err Length) >>= λ z. Ok (z, y))
    inside true x y = refl
    inside false x y = refl

-- A string is a box of any bytes.
pub string_reads : ReadsFront Any (λ b. box (bytes b)) string_at
unfolding string_at box_at
string_reads = same_front (box_reads all_reads) (λ b. bind_same (number_at w32 b) _ _ (λ n. string_is_box n.0 n.1))

-- ---- a front that is all there is

module _ {A : Type 0} {Is : A → Type 0} {spell : A → Parts} {read : Front A} (reads : ReadsFront Is spell read) where
  pub whole_reads : ReadsWhole Is spell (whole read)
  whole_reads = record {
    takes = λ b y e. let s = (whole_spells (by_itself (grammar reads)) b y).0 e in (s.is, s.fits, s.shape);
    again = λ x is fits. (whole_spells (by_itself (grammar reads)) (flat (spell x)) x).1 (normal_is_spelling x is fits);
  }

  -- No spelling begins another.
  pub prefix_free : IsPrefixFree Is spell
  prefix_free = plain_prefix Is spell leaf_tree (grammar reads)

  pub prefix : (v w : A) (r q : List ℕ) → Is v → Fits (spell v) → Is w → Fits (spell w) → flat (spell v) ++ r ≡ flat (spell w) ++ q → (v ≡ w) × (r ≡ q)
  unfolding IsPrefixFree
  prefix = prefix_free

  -- Equal bytes are of one value.
  pub injective : (v w : A) → Is v → Fits (spell v) → Is w → Fits (spell w) → flat (spell v) ≡ flat (spell w) → v ≡ w
  injective v w v-is v-fits w-is w-fits e = (prefix v w [] [] v-is v-fits w-is w-fits (ap (λ (z : List ℕ). z ++ []) e)).0

-- ---- one after the other

module _ {A B : Type 0} {Is : A → Type 0} {spell : A → Parts} {read : Front A} {IsNext : A → B → Type 0} {spell_next : A → B → Parts} {next : A → Front B} (first : ReadsFront Is spell read) (second : (x : A) → ReadsFront (IsNext x) (spell_next x) (next x)) where
  pub then_reads : ReadsFront (λ (p : A × B). Is p.0 × IsNext p.0 p.1) (λ (p : A × B). spell p.0 & spell_next p.0 p.1) (after_at read next)
  then_reads = tree_reads (tt, tt) (dependent_tree (ends (by_itself (grammar first)) (λ b. refl)) leaf_tree (λ _. leaf_tree)) (all_end (then_grammar (by_itself (grammar first)) (λ a. by_itself (grammar (second a)))) (λ b. refl))

-- ---- a test on what was read, or another form of it

module _ {A B : Type 0} {Was : A → Type 0} {spelled : A → Parts} {Is : B → Type 0} {spell : B → Parts} {check : A → Result B Fault} (checks : Checks Was spelled Is spell check) where
  pub checked_reads : {read : Front A} → ReadsFront Was spelled read → ReadsFront Is spell (checked_at check read)
  checked_reads reads = tree_reads {S = Unit {0}} tt (tested_tree leaf_tree check
      (λ x y is e. let c = checks.takes x.0 y is e in (tt, c.0, alike _ _ c.1))
      (λ y is. let c = checks.again y.0 is in ((c.0, tt), c.1, c.2, alike _ _ c.3)))
      (all_end (tested_grammar check (by_itself (grammar reads))) (λ b. refl))

  pub checked_whole_reads : {read : Whole A} → ReadsWhole Was spelled read → ReadsWhole Is spell (checked_whole check read)
  checked_whole_reads {read} reads = record {
    takes = λ b y e.
        let x = bind_ok (read b) check y e in
        let t = reads.takes b x.0 x.1 in
        let c = checks.takes x.0 y t.0 x.2 in
        let inner = subst (λ (p : Parts). Fits p × (b ≡ flat p)) c.1 (t.1, t.2) in
        (c.0, inner.0, inner.1);
    again = λ y is fits.
        let c = checks.again y is in
        ap (λ (p : Parts). checked_whole check read (flat p)) (sym c.3) ∙ rw (reads.again c.0 c.1 (subst Fits (sym c.3) fits), c.2) refl;
  }

  -- the same in a box
  pub boxed_checks : Checks Was (λ a. box (spelled a)) Is (λ b. box (spell b)) check
  boxed_checks = record {
    takes = λ a b was e. let t = checks.takes a b was e in (t.0, ap box t.1);
    again = λ b is. let t = checks.again b is in (t.0, t.1, t.2, ap box t.3);
  }

-- a string, and then what the test makes of it
pub checked_string_reads : {B : Type 0} {Is : B → Type 0} {spell : B → Parts} {check : List ℕ → Result B Fault} → Checks Any bytes Is spell check → ReadsFront Is (λ x. box (spell x)) (checked_at check string_at)
checked_string_reads checks = checked_reads (boxed_checks checks) string_reads

module _ {A B : Type 0} {Was : A → Type 0} {spelled : A → Parts} {Is : B → Type 0} {spell : B → Parts} where
  -- A change of form that always succeeds.
  pub to_form : (to : A → B) → ((a : A) → Was a → Is (to a) × (spelled a ≡ spell (to a))) → ((b : B) → Is b → (a : A) × Was a × (to a ≡ b) × (spelled a ≡ spell b)) → Checks Was spelled Is spell (λ a. Ok (to a))
  to_form to there back = record {
    takes = λ a b was e. subst (λ (y : B). Is y × (spelled a ≡ spell y)) (ok_is (to a) b e) (there a was);
    again = λ b is. let x = back b is in (x.0, x.1, ap (λ (y : B). done y) x.2, x.3);
  }

-- A test that keeps the value.
pub kept : {A : Type 0} {Was : A → Type 0} {spelled : A → Parts} (test : A → Bool) (fault : Fault) → Checks Was spelled (λ a. Was a × (test a ≡ true)) spelled (λ a. cond (test a) (Ok a) (Err fault))
kept {A} {Was} {spelled} test fault = record {
  takes = λ a b was e.
      let h = met (test a) fault (Ok a) b e in
      subst (λ (z : A). (Was z × (test z ≡ true)) × (spelled a ≡ spelled z)) (ok_is a b h.1) ((was, h.0), refl);
  again = λ a is. (a, is.0, rw is.1 refl, refl);
}

-- the same, asked in another form
pub as_checks : {A B : Type 0} {Was : A → Type 0} {spelled : A → Parts} {Is Are : B → Type 0} {spell : B → Parts} {check : A → Result B Fault} → ((b : B) → Is b → Are b) → ((b : B) → Are b → Is b) → Checks Was spelled Is spell check → Checks Was spelled Are spell check
as_checks there back checks = record {
  takes = λ a b was e. let t = checks.takes a b was e in (there b t.0, t.1);
  again = λ b is. checks.again b (back b is);
}

-- A test of bytes about which nothing else is asked.
pub kept_bytes : (test : List ℕ → Bool) (fault : Fault) → Checks Any bytes (λ b. test b ≡ true) bytes (λ b. cond (test b) (Ok b) (Err fault))
kept_bytes test fault = as_checks (λ b h. h.1) (λ b h. (tt, h)) (kept {Was = Any} {spelled = bytes} test fault)

literal_checks : (text : List ℕ) → Checks (HasLength (length text)) bytes (λ b. b ≡ text) bytes (literal_from text)
literal_checks text = as_checks (λ b h. (bytes_eq-Decides b text).0 h.1) (λ b is. (ap length is, (bytes_eq-Decides b text).1 is)) (kept (λ b. bytes_eq b text) FormatEncoding)

-- Just these bytes.
pub literal_reads : (text : List ℕ) → ReadsFront (λ b. b ≡ text) bytes (literal_at text)
unfolding literal_at
literal_reads text = checked_reads (literal_checks text) (bytes_reads (length text))

-- the same, asked in another form
pub as_front_form : {A : Type 0} {Was Is : A → Type 0} {spell : A → Parts} {read : Front A} → ((a : A) → Was a → Is a) → ((a : A) → Is a → Was a) → ReadsFront Was spell read → ReadsFront Is spell read
as_front_form {A} {Was} {Is} {spell} {read} there back reads = record {
  takes = λ b x rest e. let t = reads.takes b x rest e in (there x t.0, t.1, t.2);
  again = λ x rest is fits. reads.again x rest (back x is) fits;
}

pub as_whole_form : {A : Type 0} {Was Is : A → Type 0} {spell : A → Parts} {read : Whole A} → ((a : A) → Was a → Is a) → ((a : A) → Is a → Was a) → ReadsWhole Was spell read → ReadsWhole Is spell read
as_whole_form {A} {Was} {Is} {spell} {read} there back reads = record {
  takes = λ b x e. let t = reads.takes b x e in (there x t.0, t.1, t.2);
  again = λ x is fits. reads.again x (back x is) fits;
}

-- ---- lists up to the end

first_item : {A : Type 0} (item : Option A → Front A) (n : ℕ) (before : Option A) (b : List ℕ) (x : A) (rest : List ℕ) (xs : List A) → 0 < length b → item before b ≡ Ok (x, rest) → list_within item n (Some x) rest ≡ Ok xs → list_within item (suc n) before b ≡ Ok (x ∷ xs)
unfolding list_within
first_item item n before [] x rest xs some e f = absurd (omega arith)
first_item item n before (c ∷ b) x rest xs some e f = rw (e, f) refl

module _ {A : Type 0} {Follows : Option A → A → Type 0} {spell : A → Parts} {item : Option A → Front A} (reads : (before : Option A) → ReadsFront (Follows before) spell (item before)) (shows : (x : A) → 0 < length (flat (spell x))) where
  list_takes : (n : ℕ) (before : Option A) (b : List ℕ) (xs : List A) → list_within item n before b ≡ Ok xs → IsChain Follows before xs × Fits (each spell xs) × (b ≡ flat (each spell xs))
  unfolding flat InRange BoxesFit list_within IsChain
  list_takes n before [] xs e = subst (λ (ys : List A). IsChain Follows before ys × Fits (each spell ys) × ([] ≡ flat (each spell ys))) (ok_is [] xs e) (tt, record { range = tt; boxes = tt }, refl)
  list_takes zero before (c ∷ rest) xs e = absurd cc
  list_takes (suc n) before (c ∷ rest) xs e =
      let x = bind_ok (item before (c ∷ rest)) (λ x. list_within item n (Some x.0) x.1 >>= λ xs. Ok (x.0 ∷ xs)) xs e in
      let y = bind_ok (list_within item n (Some x.0.0) x.0.1) (λ xs. Ok (x.0.0 ∷ xs)) xs x.2 in
      let t = (reads before).takes (c ∷ rest) x.0.0 x.0.1 x.1 in
      let u = list_takes n (Some x.0.0) x.0.1 y.0 y.1 in
      let shape : c ∷ rest ≡ flat (spell x.0.0) ++ flat (each spell y.0) = t.2 ∙ ap (λ (z : List ℕ). flat (spell x.0.0) ++ z) u.2 in
      subst (λ (ys : List A). IsChain Follows before ys × Fits (each spell ys) × (c ∷ rest ≡ flat (each spell ys))) (ok_is (x.0.0 ∷ y.0) xs y.2) ((t.0, u.0), fits_both (spell x.0.0) (each spell y.0) t.1 u.1, shape)

  list_again : (n : ℕ) (before : Option A) (xs : List A) → length (flat (each spell xs)) ≤ n → IsChain Follows before xs → Fits (each spell xs) → list_within item n before (flat (each spell xs)) ≡ Ok xs
  unfolding flat list_within IsChain
  list_again zero before [] enough is fits = refl
  list_again (suc n) before [] enough is fits = refl
  list_again zero before (x ∷ xs) enough is fits = absurd (omega (arith, shows x, length-append (flat (spell x)) (flat (each spell xs))))
  list_again (suc n) before (x ∷ xs) enough is fits =
      let shorter : length (flat (each spell xs)) ≤ n = omega (arith, shows x, length-append (flat (spell x)) (flat (each spell xs))) in
      first_item item n before (flat (spell x) ++ flat (each spell xs)) x (flat (each spell xs)) xs (omega (arith, shows x, length-append (flat (spell x)) (flat (each spell xs))))
      ((reads before).again x (flat (each spell xs)) is.0 (fits_first (spell x) (each spell xs) fits)) (list_again n (Some x) xs shorter is.1 (fits_second (spell x) (each spell xs) fits))

  pub list_reads : (before : Option A) → ReadsWhole (IsChain Follows before) (each spell) (λ b. list_within item (length b) before b)
  list_reads before = record {
    takes = λ b xs e. list_takes (length b) before b xs e;
    again = λ xs is fits. list_again (length (flat (each spell xs))) before xs (omega arith) is fits;
  }
