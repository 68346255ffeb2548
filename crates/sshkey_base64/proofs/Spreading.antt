-- Bytes that are encoded where they stand.
use Rattle.std.proofs.Common.{◌≡◌, ◌⊎◌, ℕ, ◌<◌, ◌≤◌, ◌+◌, ◌-◌, ◌*◌, ◌/◌, ◌%◌, List, [], ◌++◌, length, take, drop, refl, sym, ap, ◌∙◌, arith, inl, inr, take_all}
use Rattle.std.proofs.lemmas.List.{length-append, length-drop, length-take-le, drop-drop, append_assoc, append-nil}
use Rattle.std.proofs.Math.Seq.{take-append-add, drop-append-add, take-add}
use Rattle.base64.specs.Engines.{standard}
use Rattle.base64.specs.GeneralPurpose.{encode_of, encoded_size_of}
use Rattle.base64.proofs.EngineFacts.{encode_of-append, encode_of-nil}
use borrow.Rule.Slice.PartMut.{put_mid}
use Rattle.sshkey_base64.proofs.GoodBytes.{length_word}
use Rattle.sshkey_base64.proofs.WordSources.{no_items}

-- `n` of the `count` bytes are encoded, and the others stand where they stood.
pub record Spreads (old word : List ℕ) (count n : ℕ) : Type 0 where
  pub within : n ≤ count
  pub whole : (n % 3 ≡ 0) ⊎ (n ≡ count)
  pub same : length word ≡ length old
  pub front : take (4 * ((n + 2) / 3)) word ≡ encode_of standard (take n (drop (length old - count) old))
  pub rest : drop (length old - count + n) word ≡ drop n (drop (length old - count) old)

pub spreads_none : (old : List ℕ) (count : ℕ) → Spreads old old count 0
spreads_none old count = record { within = omega arith; whole = inl refl; same = refl; front = sym (encode_of-nil standard); rest = ap (λ (k : ℕ). drop k old) (none (length old - count)) }
  where
    none : (n : ℕ) → n + 0 ≡ n
    none n = omega arith

pub spreads_more : (old word new piece : List ℕ) (count n m k size : ℕ) → Spreads old word count n → n < count → m ≤ count - n → (m ≡ 48) ⊎ (m ≡ count - n) → length old ≡ 4 * ((count + 2) / 3)
    → piece ≡ take m (drop (length old - count + n) word) → k ≡ n / 3 * 4 → size ≡ 4 * ((m + 2) / 3)
    → new ≡ take k word ++ (encode_of standard piece ++ drop size (drop k word)) → Spreads old new count (n + m)
spreads_more old word new piece count n m k size s lt le last len piece_is k_is size_is new_is =
    let start : ℕ = length old - count in
    let blob : List ℕ = drop start old in
    let threes : n % 3 ≡ 0 = elim s.whole [ inl e ↦ e | inr e ↦ absurd (omega (arith, e, lt)) ] in
    let word_len : length word ≡ length old = s.same in
    let room : start + n + m ≤ length word = omega arith in
    let piece_len : length piece ≡ m = ap length piece_is ∙ length-take-le m (drop (start + n) word) (omega (arith, length-drop (start + n) word)) in
    let code_len : length (encode_of standard piece) ≡ size = omega (arith, length_word piece) in
    let enough : k + size ≤ start + (n + m) = omega arith in
    let short : k ≤ length word = omega arith in
    let front_len : length (take k word) ≡ k = length-take-le k word short in
    let head : List ℕ = take k word ++ encode_of standard piece in
    let head_len : length head ≡ k + size = omega (arith, length-append (take k word) (encode_of standard piece)) in
    let tail : List ℕ = drop size (drop k word) in
    let new_at : new ≡ head ++ tail = new_is ∙ sym (append_assoc (take k word) (encode_of standard piece) tail) in
    let tail_at : tail ≡ drop (k + size) word = drop-drop size k word in
    let far : start + (n + m) ≡ length head + (start + (n + m) - (k + size)) = omega arith in
    let back : k + size + (start + (n + m) - (k + size)) ≡ start + n + m = omega arith in
    let pieces : piece ≡ take m (drop n blob) = piece_is ∙ ap (take m) s.rest in
    let first_len : length (take n blob) ≡ n = length-take-le n blob (omega (arith, length-drop start old)) in
    let whole_front : length (take n blob) % 3 ≡ 0 = omega arith in
    let front_at : take k word ≡ encode_of standard (take n blob) = ap (λ (i : ℕ). take i word) (omega arith) ∙ s.front in
    let count_at : 4 * ((n + m + 2) / 3) ≡ length head + 0 = omega arith in
    record {
      within = omega arith;
      whole = elim last [ inl e ↦ inl (omega (arith, e, threes)) | inr e ↦ inr (omega (arith, e, lt)) ];
      same = omega (arith, ap length new_at, length-append head tail, ap length tail_at, length-drop (k + size) word);
      front = ap (λ (l : List ℕ). take (4 * ((n + m + 2) / 3)) l) new_at ∙ ap (λ (i : ℕ). take i (head ++ tail)) count_at ∙ take-append-add head tail 0 ∙ append-nil head
          ∙ ap (λ (l : List ℕ). l ++ encode_of standard piece) front_at ∙ ap (λ (l : List ℕ). encode_of standard (take n blob) ++ encode_of standard l) pieces
          ∙ sym (encode_of-append standard (take n blob) (take m (drop n blob)) whole_front) ∙ ap (encode_of standard) (sym (take-add n m blob));
      rest = ap (λ (l : List ℕ). drop (start + (n + m)) l) new_at ∙ ap (λ (i : ℕ). drop i (head ++ tail)) far ∙ drop-append-add head tail (start + (n + m) - (k + size))
          ∙ ap (drop (start + (n + m) - (k + size))) tail_at ∙ drop-drop (start + (n + m) - (k + size)) (k + size) word ∙ ap (λ (i : ℕ). drop i word) back
          ∙ sym (drop-drop m (start + n) word) ∙ ap (drop m) s.rest ∙ drop-drop m n blob;
    }

-- what is written from a place on
pub written_from : (word out code : List ℕ) (k size n : ℕ) → n ≡ length word → out ≡ code ++ drop size (take (n - k) (drop k word)) → put_mid k (n - k) word out ≡ take k word ++ (code ++ drop size (drop k word))
written_from word out code k size n len is =
    let all : take (n - k) (drop k word) ≡ drop k word = take_all (n - k) (drop k word) (omega (arith, length-drop k word)) in
    let none : drop (n - k) (drop k word) ≡ [] = no_items (drop (n - k) (drop k word)) (omega (arith, length-drop (n - k) (drop k word), length-drop k word)) in
    ap (λ (l : List ℕ). take k word ++ (out ++ l)) none ∙ ap (λ (l : List ℕ). take k word ++ l) (append-nil out ∙ is ∙ ap (λ (l : List ℕ). code ++ drop size l) all)

pub size_of : (l : List ℕ) (m : ℕ) → length l ≡ m → encoded_size_of standard (length l) ≡ 4 * ((m + 2) / 3)
size_of l m e = omega (arith, e)
