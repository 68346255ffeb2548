-- What a window keeps of all that is written.
use Rattle.std.proofs.Common.{◌≡◌, ◌⊎◌, ℕ, zero, suc, ◌≤◌, ◌+◌, ◌-◌, ◌%◌, min, List, [], ◌∷◌, ◌++◌, length, take, drop, refl, sym, ap, ◌∙◌, arith, Option, None, inl, inr}
use Rattle.std.proofs.lemmas.Bool.{cases_lt}
use Rattle.std.proofs.lemmas.List.{length-append, append-nil, append_assoc, length-take, length-take-le, length-drop, drop_min, take_min}
use Rattle.std.proofs.Math.Seq.{take-append-add}
use borrow.Rule.Slice.PartMut.{put_mid}
use Rattle.sshkey_model.specs.Parts.{Parts, flat, BoxesFit}
use Rattle.sshkey_base.specs.declared.encoding.Error.{Error}
use Rattle.sshkey_base.specs.Sink.{Sink, Written, NotWritten, after}

nothing_less : (n : ℕ) → n ≡ n - 0
nothing_less n = omega arith

none_less : (n : ℕ) → 0 ≡ 0 - n
none_less n = omega arith

one_less : (n m : ℕ) → n - m ≡ suc n - suc m
one_less n m = omega arith

drop_both : (n : ℕ) (xs ys : List ℕ) → drop n (xs ++ ys) ≡ drop n xs ++ drop (n - length xs) ys
drop_both zero [] ys = refl
drop_both (suc n) [] ys = ap (λ (k : ℕ). drop k ys) (nothing_less (suc n))
drop_both zero (x ∷ xs) ys = ap (λ (k : ℕ). x ∷ (xs ++ drop k ys)) (none_less (suc (length xs)))
drop_both (suc n) (x ∷ xs) ys = drop_both n xs ys ∙ ap (λ (k : ℕ). drop n xs ++ drop k ys) (one_less n (length xs))

take_both : (n : ℕ) (xs ys : List ℕ) → take n (xs ++ ys) ≡ take n xs ++ take (n - length xs) ys
take_both zero [] ys = refl
take_both (suc n) [] ys = ap (λ (k : ℕ). take k ys) (nothing_less (suc n))
take_both zero (x ∷ xs) ys = ap (λ (k : ℕ). take k ys) (none_less (suc (length xs)))
take_both (suc n) (x ∷ xs) ys = ap (λ (l : List ℕ). x ∷ l) (take_both n xs ys ∙ ap (λ (k : ℕ). take n xs ++ take k ys) (one_less n (length xs)))

-- ---- one write

-- Bytes were written after those that are kept.
pub kept_more : (all added kept new : List ℕ) (start before len size passed count i n m : ℕ) → before ≡ start - length all → take len kept ≡ take size (drop start all) → len ≤ size → length kept ≡ size
    → passed ≡ min before (length added) → count ≡ min (length added - passed) (size - len) → i ≡ count → n ≡ count → m ≡ len + count → new ≡ put_mid len n kept (take i (drop passed added)) → take m new ≡ take size (drop start (all ++ added))
kept_more all added kept new start before len size passed count i n m before_is kept_is le size_is passed_is count_is i_is n_is m_is new_is =
    let front : List ℕ = take len kept in
    let left : List ℕ = drop before added in
    let piece : List ℕ = take i (drop passed added) in
    let front_len : length front ≡ len = length-take-le len kept (omega arith) in
    let part : List ℕ = drop start all in
    let len_is : len ≡ min size (length part) = sym front_len ∙ ap length kept_is ∙ length-take size part in
    let left_len : length left ≡ length added - before = length-drop before added in
    let left_is : drop passed added ≡ left = ap (λ (k : ℕ). drop k added) passed_is ∙ drop_min before added in
    let many : i ≡ min (size - length part) (length left) = fits before (length added) size (length part) len passed count i (length left) passed_is count_is i_is len_is left_len in
    let piece_is : piece ≡ take (size - length part) left = ap (λ (l : List ℕ). take i l) left_is ∙ ap (λ (k : ℕ). take k left) many ∙ take_min (size - length part) left in
    let piece_len : length piece ≡ count = length-take-le i (drop passed added) (omega (arith, length-drop passed added, i_is, count_is)) ∙ i_is in
    let m_at : m ≡ length (front ++ piece) + 0 = omega (arith, length-append front piece, front_len, piece_len, m_is) in
    let rest : List ℕ = drop n (drop len kept) in
    let new_at : new ≡ (front ++ piece) ++ rest = new_is ∙ sym (append_assoc front piece rest) in
    ap (take m) new_at ∙ ap (λ (k : ℕ). take k ((front ++ piece) ++ rest)) m_at ∙ take-append-add (front ++ piece) rest 0 ∙ append-nil (front ++ piece)
    ∙ ap (λ (l : List ℕ). l ++ piece) kept_is ∙ ap (λ (l : List ℕ). take size part ++ l) piece_is ∙ sym (take_both size part left)
    ∙ ap (λ (k : ℕ). take size (part ++ drop k added)) before_is ∙ ap (take size) (sym (drop_both start all added))
  where
    fits : (before many size have len passed count i left : ℕ) → passed ≡ min before many → count ≡ min (many - passed) (size - len) → i ≡ count → len ≡ min size have → left ≡ many - before → i ≡ min (size - have) left
    fits before many size have len passed count i left p c e l f = omega arith

pub before_more : (all added : List ℕ) (start before passed : ℕ) → before ≡ start - length all → passed ≡ min before (length added) → before - passed ≡ start - length (all ++ added)
before_more all added start before passed is p = omega (arith, length-append all added)

pub kept_size : (kept piece : List ℕ) (i n : ℕ) → length piece ≡ n → i + n ≤ length kept → length (put_mid i n kept piece) ≡ length kept
kept_size kept piece i n len le =
    omega (arith, length-append (take i kept) (piece ++ drop n (drop i kept)), length-append piece (drop n (drop i kept)), length-drop n (drop i kept), length-drop i kept, length-take-le i kept (omega (arith, le)), len, le)

-- ---- a window of a value

heads : (n m : ℕ) (a b : List ℕ) → n ∷ a ≡ m ∷ b → (n ≡ m) × (a ≡ b)
heads n m a b e = (cc, cc)

-- All of the value was written, and the window begins where it began.
window_is : (p : Parts) (start end : ℕ) (before all : List ℕ) (limit : Option ℕ) → before ≡ [] → Written p (record { written = start ∷ before; limit = limit }) (record { written = end ∷ all; limit = limit }) → (end ≡ start) × (all ≡ flat p)
unfolding after
window_is p start end before all limit none h =
    let both = heads end start all (before ++ flat p) (ap (λ (s : Sink). s.written) h.1) in
    (both.0, both.1 ∙ ap (λ (l : List ℕ). l ++ flat p) none)

pub never_refused : (p : Parts) (s t : Sink) (e : Error) → BoxesFit p → NotWritten (λ _. ⊥) p s e t → ⊥
unfolding NotWritten
never_refused p s t e boxes h = elim h [ inl l ↦ l.misfit boxes | inr o ↦ o.own ]

-- What is kept of the value, and how many bytes that are.
pub window_part : (p : Parts) (start begin end : ℕ) (before all word : List ℕ) → start ≡ begin → before ≡ [] → Written p (record { written = start ∷ before; limit = None }) (record { written = end ∷ all; limit = None }) → word ≡ take 3072 (drop end all)
    → (word ≡ take (length word) (drop begin (flat p))) × (length word ≡ min 3072 (length (flat p) - begin))
window_part p start begin end before all word starts none h w =
    let is = window_is p start end before all None none h in
    let blob : List ℕ = flat p in
    let at : word ≡ take 3072 (drop begin blob) = w ∙ ap (λ (k : ℕ). take 3072 (drop k all)) (is.0 ∙ starts) ∙ ap (λ (l : List ℕ). take 3072 (drop begin l)) is.1 in
    let many : length word ≡ min 3072 (length (drop begin blob)) = ap length at ∙ length-take 3072 (drop begin blob) in
    (at ∙ sym (take_min 3072 (drop begin blob)) ∙ ap (λ (k : ℕ). take k (drop begin blob)) (sym many), many ∙ ap (min 3072) (length-drop begin blob))

pub whole_or_last : (n m : ℕ) → m ≡ min 3072 n → (m % 3 ≡ 0) ⊎ (m ≡ n)
whole_or_last n m e = elim (cases_lt n 3072) [ inl lt ↦ inr (omega arith) | inr ge ↦ inl (omega arith) ]
