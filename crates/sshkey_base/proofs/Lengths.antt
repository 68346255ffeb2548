-- Where a stated length passes, the plain readers refuse with `Length`.
use Rattle.std.proofs.Common.{◌≡◌, inl, inr, ◌≤◌, ◌<◌, ◌+◌, ◌-◌, ℕ, zero, suc, Bool, true, false, ltb, Option, Some, None, List, [], ◌∷◌, length, take, drop, Result, Ok, Err, refl, arith}
use Rattle.std.specs.Prelude.{IsOkAnd, cond}
use Rattle.std.specs.Int.{w32}
use Rattle.std.proofs.lemmas.Bool.{lt-ltb}
use Rattle.sshkey_model.specs.Reading.{Fault, Length, ◌>>=◌, Front, Whole, whole, number_at, bytes_at, string_at, box_at, checked_at, list_within, list_whole, to_end}
use Rattle.sshkey_model.specs.CertificateNames.{certified_from, certificate_algorithm_at}
use Rattle.sshkey_model.specs.Mpints.{mpint_at, mpint_from}
use Rattle.sshkey_model.specs.Texts.{text_at, text_from, texts_at}
use Rattle.sshkey_model.specs.Labels.{label_at}
use Rattle.sshkey_model.specs.ShortStrings.{short_at, at_most}
use Rattle.sshkey_model.specs.Overruns.{NoOverrun, OverrunsBytes, OverrunsString, OverrunsBoxed, OverrunsWithin, OverrunsList, AreLengths}

pub no_lengths : {A : Type 0} (read : Front A) → AreLengths read NoOverrun
no_lengths read b m o = absurd o

pub bytes_lengths : (n : ℕ) → AreLengths (bytes_at n) (OverrunsBytes n)
unfolding bytes_at
bytes_lengths n b m o = let lt : length b < n = omega (arith, o) in rw (lt-ltb _ _ lt) refl

pub string_lengths : AreLengths string_at OverrunsString
unfolding string_at bytes_at
string_lengths b m o = go (number_at w32 b) o
  where
    go : (r : Result (ℕ × List ℕ) Fault) → IsOkAnd r (λ x. length x.1 + m < x.0) → (r >>= λ n. bytes_at n.0 n.1) ≡ Err Length
    go (Ok n) o = let lt : length n.1 < n.0 = omega (arith, o) in rw (lt-ltb _ _ lt) refl
    go (Err e) o = absurd o

-- a test of what was read
pub checked_lengths : {A B : Type 0} {read : Front A} {overruns : List ℕ → ℕ → Type 0} (test : A → Result B Fault) → AreLengths read overruns → AreLengths (checked_at test read) overruns
checked_lengths test h b m o = rw (h b m o) refl

abbrev with_first : {A : Type 0} → A → List A → Result (List A) Fault
with_first x xs = Ok (x ∷ xs)

abbrev pub with_rest : {A : Type 0} → List ℕ → A → Result (A × List ℕ) Fault
with_rest rest x = Ok (x, rest)

-- after the length of a box
abbrev pub box_step : {A : Type 0} → Whole A → ℕ × List ℕ → Result (A × List ℕ) Fault
box_step read n = cond (ltb (length n.1) n.0) (Err Length) (read (take n.0 n.1) >>= with_rest (drop n.0 n.1))

-- whatever a box holds
pub box_lengths : {A : Type 0} (read : Whole A) → AreLengths (box_at read) OverrunsString
unfolding box_at
box_lengths {A} read b m o = go (number_at w32 b) o
  where
    go : (r : Result (ℕ × List ℕ) Fault) → IsOkAnd r (λ x. length x.1 + m < x.0) → (r >>= box_step read) ≡ Err Length
    go (Ok n) o = let lt : length n.1 < n.0 = omega (arith, o) in rw (lt-ltb _ _ lt) refl
    go (Err e) o = absurd o

-- and where a length passes in it
filled_lengths : {A : Type 0} {read : Whole A} {inner : List ℕ → ℕ → Type 0} → ((b : List ℕ) (m : ℕ) → inner b m → read b ≡ Err Length) → AreLengths (box_at read) (OverrunsBoxed inner)
unfolding box_at
filled_lengths {A} {read} {inner} h b m (inl o) = box_lengths read b m o
filled_lengths {A} {read} {inner} h b m (inr o) = go (number_at w32 b) o
  where
    within : (n : ℕ) (l : List ℕ) (few : Bool) → ltb (length l) n ≡ few → inner (take n l) (n - length l) → cond few (Err Length) (read (take n l) >>= with_rest (drop n l)) ≡ Err Length
    within n l true e i = refl
    within n l false e i = rw (h (take n l) (n - length l) i) refl

    go : (r : Result (ℕ × List ℕ) Fault) → IsOkAnd r (λ x. (x.0 ≤ length x.1 + m) × inner (take x.0 x.1) (x.0 - length x.1)) → (r >>= box_step read) ≡ Err Length
    go (Ok n) o = within n.0 n.1 (ltb (length n.1) n.0) refl o.1
    go (Err e) o = absurd o

pub boxed_lengths : {A : Type 0} {read : Front A} {inner : List ℕ → ℕ → Type 0} → AreLengths read inner → AreLengths (box_at (whole read)) (OverrunsBoxed inner)
boxed_lengths h = filled_lengths (λ b m o. rw (h b m o) refl)

-- ---- lists

-- a step after a value that was read
after_lengths : {A : Type 0} (Passes : A → List ℕ → Type 0) (next : A → List ℕ → Result (List A) Fault) (r : Result (A × List ℕ) Fault) → IsOkAnd r (λ x. Passes x.0 x.1) → ((a : A) (rest : List ℕ) → Passes a rest → next a rest ≡ Err Length) → (r >>= λ x. next x.0 x.1 >>= with_first x.0) ≡ Err Length
after_lengths Passes next (Ok x) o met = rw (met x.0 x.1 o) refl
after_lengths Passes next (Err e) o met = absurd o

module _ {A : Type 0} {item : Option A → Front A} {over : List ℕ → ℕ → Type 0} (lengths : (before : Option A) → AreLengths (item before) over) where
  within_lengths : (n k : ℕ) (before : Option A) (b : List ℕ) (m : ℕ) → OverrunsWithin item over n before b m → list_within item k before b ≡ Err Length
  unfolding list_within
  within_lengths n k before [] m o = absurd o
  within_lengths zero k before (c ∷ b) m o = absurd o
  within_lengths (suc n) zero before (c ∷ b) m o = refl
  within_lengths (suc n) (suc k) before (c ∷ b) m (inl o) = rw (lengths before (c ∷ b) m o) refl
  within_lengths (suc n) (suc k) before (c ∷ b) m (inr o) = after_lengths (λ a rest. OverrunsWithin item over n (Some a) rest m) (λ a rest. list_within item k (Some a) rest) (item before (c ∷ b)) o (λ a rest w. within_lengths n k (Some a) rest m w)

  pub list_lengths : (b : List ℕ) (m : ℕ) → OverrunsList item over b m → list_whole item b ≡ Err Length
  list_lengths b m o = within_lengths o.0 (length b) None b m o.1

  pub to_end_lengths : AreLengths (to_end (list_whole item)) (OverrunsList item over)
  to_end_lengths b m o = rw (list_lengths b m o) refl

-- a list in a box
pub box_list_lengths : {A : Type 0} {item : Option A → Front A} {over : List ℕ → ℕ → Type 0} → ((before : Option A) → AreLengths (item before) over) → AreLengths (box_at (list_whole item)) (OverrunsBoxed (OverrunsList item over))
box_list_lengths lengths = filled_lengths (list_lengths lengths)

-- ---- strings that are judged

pub short_lengths : (n : ℕ) → AreLengths (short_at n) OverrunsString
unfolding short_at
short_lengths n = checked_lengths (at_most n) string_lengths

pub text_lengths : AreLengths text_at OverrunsString
unfolding text_at
text_lengths = checked_lengths text_from string_lengths

pub mpint_lengths : AreLengths mpint_at OverrunsString
unfolding mpint_at
mpint_lengths = checked_lengths mpint_from string_lengths

pub label_lengths : {N : Type 0} (named : Whole N) → AreLengths (label_at named) OverrunsString
unfolding label_at
label_lengths named = checked_lengths named string_lengths

pub texts_lengths : AreLengths texts_at (OverrunsBoxed (OverrunsList (λ before. text_at) OverrunsString))
unfolding texts_at
texts_lengths = box_list_lengths (λ before. text_lengths)

pub certified_lengths : AreLengths certificate_algorithm_at OverrunsString
unfolding certificate_algorithm_at
certified_lengths = checked_lengths certified_from string_lengths
