-- The bytes of a word before its fault, and that it has none exactly if it is canonical.
use Rattle.std.proofs.Common.{◌≡◌, ◌≢◌, ℕ, zero, suc, ◌<◌, ◌≤◌, ◌+◌, ◌-◌, ◌*◌, ◌/◌, ◌%◌, ◌==◌, if◌then◌else◌, List, [], ◌∷◌, ◌++◌, length, sym, ap, ◌∙◌, subst, refl, arith, slice_index, Option, None, Some, Result, Ok, Err, true, false, Bool, not, eqb-true, ◌&&◌, eqb, replicate}
use Rattle.std.proofs.lemmas.Bool.{and_parts, ne_eqb}
use Rattle.std.proofs.lemmas.List.{length-append, append-nil, append_assoc, length-replicate}
use Rattle.std.specs.Result.{result_ok}
use Rattle.base64.specs.Rfc4648.{encode_symbols, padding_len}
use Rattle.base64.specs.Engines.{standard}
use Rattle.base64.specs.GeneralPurpose.{encode_of, decode_of, decoded_of, IsBytes}
use Rattle.base64.specs.declared.decode.DecodeError.{DecodeError}
use Rattle.base64.proofs.RoundTrip.{length-encode_symbols}
use Rattle.base64.proofs.EngineFacts.{decode_of-encode_of, decode_of_strict, encode_of-append, encode_of-nil, front_bytes}
use Rattle.base64.proofs.Streams.{decoded_of-ok}
use Rattle.sshkey_model.specs.Parts.{are_bytes}
use Rattle.sshkey_model.proofs.CombinedReaders.{bytes_fit, fit_bytes, are_bytes-append}
use Rattle.sshkey_base64.specs.Words64.{pad_count, announced, only_bytes, group, before, good, word_source, IsSourceOf}

-- ---- one group

pub known : (b : List ℕ) → IsBytes b → group (encode_of standard b) ≡ Some b
known b are = ap only_bytes (decoded_of-ok standard (encode_of standard b) b (decode_of-encode_of standard b refl are)) ∙ rw (fit_bytes b are) refl

result_some : (r : Result (List ℕ) DecodeError) (b : List ℕ) → result_ok r ≡ Some b → r ≡ Ok b
result_some (Ok x) b e = let same : x ≡ b = cc in ap (λ (y : List ℕ). Ok y) same
result_some (Err x) b e = absurd cc

pub decoded : (w b : List ℕ) → decoded_of standard w ≡ Some b → decode_of standard w ≡ Ok b
unfolding decoded_of
decoded w b e = result_some (decode_of standard w) b e

pub some_bytes : (o : Option (List ℕ)) (b : List ℕ) → only_bytes o ≡ Some b → (o ≡ Some b) × (are_bytes b ≡ true)
some_bytes None b e = absurd cc
some_bytes (Some x) b e = kept (are_bytes x) refl e
  where
    kept : (t : Bool) → are_bytes x ≡ t → (if t then Some x else None) ≡ Some b → (Some x ≡ Some b) × (are_bytes b ≡ true)
    kept true is same = let eq : x ≡ b = cc in (same, sym (ap are_bytes eq) ∙ is)
    kept false is same = absurd cc

-- A group is the word of its bytes.
pub word_is : (w b : List ℕ) → IsBytes w → group w ≡ Some b → (w ≡ encode_of standard b) × IsBytes b
word_is w b are e =
    let s = some_bytes (decoded_of standard w) b e in
    (decode_of_strict standard w b (refl, refl) are (decoded w b s.0), bytes_fit b s.1)

pub length_word : (b : List ℕ) → length (encode_of standard b) ≡ 4 * ((length b + 2) / 3)
length_word b = omega (arith, length-append (encode_symbols standard.encode_table b) (replicate (padding_len (length b)) 61), length-encode_symbols standard.encode_table b, length-replicate {A = ℕ} (padding_len (length b)) 61)

-- no symbol is `=`
abbrev is_clean : List ℕ → Bool
is_clean [] = true
is_clean (c ∷ cs) = not (eqb c 61) && is_clean cs

clean : (t : List ℕ) → is_clean t ≡ true → (i : ℕ) → slice_index t i ≢ 61
clean [] e i = λ h. cc h
clean (c ∷ cs) e zero = λ h. cc (sym (ap (λ (x : ℕ). not (eqb x 61) && is_clean cs) h) ∙ e)
clean (c ∷ cs) e (suc i) = clean cs (and_parts (not (eqb c 61)) (is_clean cs) e).1 i

symbol_not : (i : ℕ) → (slice_index standard.encode_table i == 61) ≡ false
symbol_not i = ne_eqb (slice_index standard.encode_table i) 61 (clean standard.encode_table refl i)

announced_one : (x : ℕ) → announced (encode_of standard (x ∷ [])) ≡ 1
unfolding encode_symbols
announced_one x = refl

announced_two : (x y : ℕ) → announced (encode_of standard (x ∷ y ∷ [])) ≡ 2
unfolding encode_symbols
announced_two x y = rw (symbol_not (y % 16 * 4)) refl

pub announced_three : (x y z : ℕ) → announced (encode_of standard (x ∷ y ∷ z ∷ [])) ≡ 3
unfolding encode_symbols
announced_three x y z = rw (symbol_not (z % 64)) refl

-- ---- how many bytes are announced

small : (s t : Bool) → (if s then (if t then 2 else 1) else 0) ≤ 2
small true true = omega arith
small true false = omega arith
small false t = omega arith

padding_small : (w : List ℕ) → pad_count w ≤ 2
padding_small w = small (slice_index w (length w - 1) == 61) (slice_index w (length w - 2) == 61)

more : (n p q : ℕ) → p ≡ q → q ≤ 2 → n % 4 ≡ 0 → 0 < n → 3 * (suc (suc (suc (suc n))) / 4) - p ≡ 3 + (3 * (n / 4) - q)
more n p q e le whole some = omega arith

-- the padding of two last characters
abbrev ends : ℕ → ℕ → ℕ
ends d c = if d == 61 then (if c == 61 then 2 else 1) else 0

same_ends : (d e b c : ℕ) → d ≡ e → b ≡ c → ends d b ≡ ends e c
same_ends d e b c p q = rw (p, q) refl

pub announced_more : (a b c d : ℕ) (r : List ℕ) → length r % 4 ≡ 0 → 0 < length r → announced (a ∷ b ∷ c ∷ d ∷ r) ≡ 3 + announced r
announced_more a b c d r whole some =
    let w : List ℕ = a ∷ b ∷ c ∷ d ∷ r in
    let one : length w - 1 ≡ suc (suc (suc (suc (length r - 1)))) = omega arith in
    let two : length w - 2 ≡ suc (suc (suc (suc (length r - 2)))) = omega arith in
    let last : slice_index w (length w - 1) ≡ slice_index r (length r - 1) = ap (λ (i : ℕ). slice_index w i) one in
    let before_last : slice_index w (length w - 2) ≡ slice_index r (length r - 2) = ap (λ (i : ℕ). slice_index w i) two in
    let same : pad_count w ≡ pad_count r = same_ends _ _ _ _ last before_last in
    more (length r) (pad_count w) (pad_count r) same (padding_small r) whole some

some_left : (n p : ℕ) → n % 4 ≡ 0 → 0 < n → p ≤ 2 → 0 < 3 * (n / 4) - p
some_left n p whole some le = omega arith

pub announced_some : (w : List ℕ) → length w % 4 ≡ 0 → 0 < length w → 0 < announced w
announced_some w whole some = some_left (length w) (pad_count w) whole some (padding_small w)

-- a group gives as many as it announces
group_length : (g b : List ℕ) → length g ≡ 4 → g ≡ encode_of standard b → (length b ≡ announced g) × (length b ≤ 3)
group_length g [] len e = absurd (omega (arith, ap length e, length_word []))
group_length g (x ∷ []) len e = (sym (ap announced e ∙ announced_one x), omega arith)
group_length g (x ∷ y ∷ []) len e = (sym (ap announced e ∙ announced_two x y), omega arith)
group_length g (x ∷ y ∷ z ∷ []) len e = (sym (ap announced e ∙ announced_three x y z), omega arith)
group_length g (x ∷ y ∷ z ∷ v ∷ b) len e = absurd (omega (arith, ap length e, length_word (x ∷ y ∷ z ∷ v ∷ b)))

first_bytes : (a b c d : ℕ) (rest : List ℕ) → IsBytes (a ∷ b ∷ c ∷ d ∷ rest) → IsBytes (a ∷ b ∷ c ∷ d ∷ [])
first_bytes a b c d rest are = front_bytes (a ∷ b ∷ c ∷ d ∷ []) rest are

later_bytes : (a b c d : ℕ) (rest : List ℕ) → IsBytes (a ∷ b ∷ c ∷ d ∷ rest) → IsBytes rest
later_bytes a b c d rest are = λ i. are (suc (suc (suc (suc i))))

-- ---- no more bytes than are announced

when_three : (x more : List ℕ) (n : ℕ) (t : Bool) → (length x == 3) ≡ t → 3 + length more ≤ n → length (if t then x ++ more else []) ≤ n
when_three x more n true is le = omega (arith, length-append x more, eqb-true (length x) 3 is)
when_three x more n false is le = omega arith

bounded_group : (a b c d : ℕ) (rest : List ℕ) (o : Option (List ℕ)) → group (a ∷ b ∷ c ∷ d ∷ []) ≡ o → IsBytes (a ∷ b ∷ c ∷ d ∷ rest) → length rest % 4 ≡ 0
    → length (good rest) ≤ announced rest → length (before o rest (good rest)) ≤ announced (a ∷ b ∷ c ∷ d ∷ rest)
bounded_group a b c d rest None is are whole le = omega arith
bounded_group a b c d [] (Some x) is are whole le =
    let w = word_is (a ∷ b ∷ c ∷ d ∷ []) x are is in
    let n : length x ≡ announced (a ∷ b ∷ c ∷ d ∷ []) = (group_length (a ∷ b ∷ c ∷ d ∷ []) x refl w.0).0 in
    subst (λ (k : ℕ). length x ≤ k) n (omega arith)
bounded_group a b c d (e ∷ r) (Some x) is are whole le =
    when_three x (good (e ∷ r)) (announced (a ∷ b ∷ c ∷ d ∷ e ∷ r)) (length x == 3) refl
    (subst (λ (k : ℕ). 3 + length (good (e ∷ r)) ≤ k) (sym (announced_more a b c d (e ∷ r) whole (omega arith))) (omega (arith, le)))

pub bounded : (w : List ℕ) → IsBytes w → length w % 4 ≡ 0 → length (good w) ≤ announced w
unfolding good
bounded [] are whole = omega arith
bounded (a ∷ []) are whole = omega arith
bounded (a ∷ b ∷ []) are whole = omega arith
bounded (a ∷ b ∷ c ∷ []) are whole = omega arith
bounded (a ∷ b ∷ c ∷ d ∷ rest) are whole =
    bounded_group a b c d rest (group (a ∷ b ∷ c ∷ d ∷ [])) refl are (omega arith) (bounded rest (later_bytes a b c d rest are) (omega arith))

-- ---- a sound word is canonical

sound_three : (a b c d : ℕ) (rest x m : List ℕ) (n : ℕ) (t : Bool) → (length x == 3) ≡ t → a ∷ b ∷ c ∷ d ∷ [] ≡ encode_of standard x → (n ≤ length m → rest ≡ encode_of standard m)
    → 3 + n ≤ length (if t then x ++ m else []) → a ∷ b ∷ c ∷ d ∷ rest ≡ encode_of standard (if t then x ++ m else [])
sound_three a b c d rest x m n true is g again le =
    let three : length x ≡ 3 = eqb-true (length x) 3 is in
    let rest_is : rest ≡ encode_of standard m = again (omega (arith, length-append x m)) in
    let whole : length x % 3 ≡ 0 = omega arith in
    ap (λ (l : List ℕ). a ∷ b ∷ c ∷ d ∷ l) rest_is ∙ ap (λ (l : List ℕ). l ++ encode_of standard m) g ∙ sym (encode_of-append standard x m whole)
sound_three a b c d rest x m n false is g again le = absurd (omega arith)

sound_group : (a b c d : ℕ) (rest : List ℕ) (o : Option (List ℕ)) → group (a ∷ b ∷ c ∷ d ∷ []) ≡ o → IsBytes (a ∷ b ∷ c ∷ d ∷ rest) → length rest % 4 ≡ 0
    → (announced rest ≤ length (good rest) → rest ≡ encode_of standard (good rest))
    → announced (a ∷ b ∷ c ∷ d ∷ rest) ≤ length (before o rest (good rest)) → a ∷ b ∷ c ∷ d ∷ rest ≡ encode_of standard (before o rest (good rest))
sound_group a b c d rest None is are whole again le =
    let some = announced_some (a ∷ b ∷ c ∷ d ∷ rest) (omega arith) (omega arith) in
    absurd (none (announced (a ∷ b ∷ c ∷ d ∷ rest)) some le)
  where
    none : (n : ℕ) → 0 < n → n ≤ 0 → ⊥
    none n lt le = omega arith
sound_group a b c d [] (Some x) is are whole again le = (word_is (a ∷ b ∷ c ∷ d ∷ []) x are is).0
sound_group a b c d (e ∷ r) (Some x) is are whole again le =
    sound_three a b c d (e ∷ r) x (good (e ∷ r)) (announced (e ∷ r)) (length x == 3) refl (word_is (a ∷ b ∷ c ∷ d ∷ []) x (first_bytes a b c d (e ∷ r) are) is).0 again
    (subst (λ (k : ℕ). k ≤ length (if length x == 3 then x ++ good (e ∷ r) else [])) (announced_more a b c d (e ∷ r) whole (omega arith)) le)

pub sound_word : (w : List ℕ) → IsBytes w → length w % 4 ≡ 0 → announced w ≤ length (good w) → w ≡ encode_of standard (good w)
unfolding good
sound_word [] are whole le = sym (encode_of-nil standard)
sound_word (a ∷ []) are whole le = absurd (omega arith)
sound_word (a ∷ b ∷ []) are whole le = absurd (omega arith)
sound_word (a ∷ b ∷ c ∷ []) are whole le = absurd (omega arith)
sound_word (a ∷ b ∷ c ∷ d ∷ rest) are whole le =
    sound_group a b c d rest (group (a ∷ b ∷ c ∷ d ∷ [])) refl are (omega arith) (sound_word rest (later_bytes a b c d rest are) (omega arith)) le

-- ---- a canonical word is sound

good_group : (x y z : ℕ) (r : List ℕ) → IsBytes (x ∷ y ∷ z ∷ []) → good (encode_of standard (x ∷ y ∷ z ∷ []) ++ r) ≡ x ∷ y ∷ z ∷ good r
unfolding good encode_symbols
good_group x y z [] are = ap (λ (o : Option (List ℕ)). before o [] []) (known (x ∷ y ∷ z ∷ []) are)
good_group x y z (c ∷ r) are = ap (λ (o : Option (List ℕ)). before o (c ∷ r) (good (c ∷ r))) (known (x ∷ y ∷ z ∷ []) are)

pub good_encoded : (b r : List ℕ) → IsBytes b → length b % 3 ≡ 0 → good (encode_of standard b ++ r) ≡ b ++ good r
good_encoded [] r are whole = ap (λ (l : List ℕ). good (l ++ r)) (encode_of-nil standard)
good_encoded (x ∷ []) r are whole = absurd (omega arith)
good_encoded (x ∷ y ∷ []) r are whole = absurd (omega arith)
good_encoded (x ∷ y ∷ z ∷ rest) r are whole =
    let apart : encode_of standard (x ∷ y ∷ z ∷ rest) ≡ encode_of standard (x ∷ y ∷ z ∷ []) ++ encode_of standard rest = encode_of-append standard (x ∷ y ∷ z ∷ []) rest refl in
    ap (λ (l : List ℕ). good (l ++ r)) apart ∙ ap good (append_assoc (encode_of standard (x ∷ y ∷ z ∷ [])) (encode_of standard rest) r)
    ∙ good_group x y z (encode_of standard rest ++ r) (front_bytes (x ∷ y ∷ z ∷ []) rest are)
    ∙ ap (λ (l : List ℕ). x ∷ y ∷ z ∷ l) (good_encoded rest r (λ i. are (suc (suc (suc i)))) (omega arith))

good_one : (x : ℕ) → IsBytes (x ∷ []) → good (encode_of standard (x ∷ [])) ≡ x ∷ []
unfolding good encode_symbols
good_one x are = ap (λ (o : Option (List ℕ)). before o [] []) (known (x ∷ []) are)

good_two : (x y : ℕ) → IsBytes (x ∷ y ∷ []) → good (encode_of standard (x ∷ y ∷ [])) ≡ x ∷ y ∷ []
unfolding good encode_symbols
good_two x y are = ap (λ (o : Option (List ℕ)). before o [] []) (known (x ∷ y ∷ []) are)

good_nil : good [] ≡ []
unfolding good
good_nil = refl

pub good_word : (b : List ℕ) → IsBytes b → good (encode_of standard b) ≡ b
good_word [] are = ap good (sym (append-nil (encode_of standard []))) ∙ good_encoded [] [] are refl ∙ good_nil
good_word (x ∷ []) are = good_one x are
good_word (x ∷ y ∷ []) are = good_two x y are
good_word (x ∷ y ∷ z ∷ rest) are =
    ap good (encode_of-append standard (x ∷ y ∷ z ∷ []) rest refl) ∙ good_group x y z (encode_of standard rest) (front_bytes (x ∷ y ∷ z ∷ []) rest are)
    ∙ ap (λ (l : List ℕ). x ∷ y ∷ z ∷ l) (good_word rest (λ i. are (suc (suc (suc i)))))

pub announced_group : (x y z : ℕ) (r : List ℕ) → length r % 4 ≡ 0 → 0 < length r → announced (encode_of standard (x ∷ y ∷ z ∷ []) ++ r) ≡ 3 + announced r
unfolding encode_symbols
announced_group x y z r whole some = announced_more _ _ _ _ r whole some

pub announced_word : (b : List ℕ) → announced (encode_of standard b) ≡ length b
announced_word [] = ap announced (encode_of-nil standard)
announced_word (x ∷ []) = announced_one x
announced_word (x ∷ y ∷ []) = announced_two x y
announced_word (x ∷ y ∷ z ∷ []) = announced_three x y z
announced_word (x ∷ y ∷ z ∷ v ∷ rest) =
    let r : List ℕ = encode_of standard (v ∷ rest) in
    let count : 3 + length (v ∷ rest) ≡ length (x ∷ y ∷ z ∷ v ∷ rest) = omega arith in
    ap announced (encode_of-append standard (x ∷ y ∷ z ∷ []) (v ∷ rest) refl)
    ∙ announced_group x y z r (omega (arith, length_word (v ∷ rest))) (omega (arith, length_word (v ∷ rest)))
    ∙ ap (λ (n : ℕ). 3 + n) (announced_word (v ∷ rest)) ∙ count

pub source_of : (w : List ℕ) → IsBytes w → length w % 4 ≡ 0 → IsSourceOf w (word_source [] w)
source_of w are whole = record {
  only = λ sound. sound_word w are whole (enough (announced w) (length (good w)) sound);
  every = λ b also e.
      let good_is : good w ≡ b = ap good e ∙ good_word b also in
      let announced_is : announced w ≡ length b = ap announced e ∙ announced_word b in
      (rw (good_is, announced_is) (none (length b)), good_is);
}
  where
    enough : (n m : ℕ) → n - m ≡ 0 → n ≤ m
    enough n m e = omega arith

    none : (n : ℕ) → n - n ≡ 0
    none n = omega arith

-- ---- fronts of whole groups

before_long : (x rest m : List ℕ) (k : ℕ) → 0 < k → length x ≤ 3 → 3 * k ≤ length (before (Some x) rest m) → (length x ≡ 3) × (3 * k ≤ 3 + length m)
before_long x [] m k some le long = (omega arith, omega arith)
before_long x (c ∷ rest) m k some le long = cases (length x == 3) refl long
  where
    cases : (t : Bool) → (length x == 3) ≡ t → 3 * k ≤ length (if t then x ++ m else []) → (length x ≡ 3) × (3 * k ≤ 3 + length m)
    cases true is h = let three = eqb-true (length x) 3 is in (three, omega (arith, three, length-append x m))
    cases false is h = absurd (omega arith)

-- A front of whole groups, each of which gives three bytes.
pub record IsWholeWord (w : List ℕ) (k : ℕ) : Type 0 where
  pub bytes : List ℕ
  pub are : are_bytes bytes ≡ true
  pub is : w ≡ encode_of standard bytes
  pub count : length bytes ≡ 3 * k

whole_group : (a b c d : ℕ) (f r : List ℕ) (k : ℕ) (o : Option (List ℕ)) → group (a ∷ b ∷ c ∷ d ∷ []) ≡ o → IsBytes (a ∷ b ∷ c ∷ d ∷ []) → 0 < k
    → (3 * (k - 1) ≤ length (good (f ++ r)) → IsWholeWord f (k - 1)) → 3 * k ≤ length (before o (f ++ r) (good (f ++ r))) → IsWholeWord (a ∷ b ∷ c ∷ d ∷ f) k
whole_group a b c d f r k None is are some again long = absurd (omega arith)
whole_group a b c d f r k (Some x) is are some again long =
    let w = word_is (a ∷ b ∷ c ∷ d ∷ []) x are is in
    let n = group_length (a ∷ b ∷ c ∷ d ∷ []) x refl w.0 in
    let long_is = before_long x (f ++ r) (good (f ++ r)) k some n.1 long in
    let rest = again (omega (arith, long_is.1)) in
    let three : length x ≡ 3 = long_is.0 in
    let whole : length x % 3 ≡ 0 = omega arith in
    record {
      bytes = x ++ rest.bytes;
      are = are_bytes-append x rest.bytes (fit_bytes x w.1) rest.are;
      is = ap (λ (l : List ℕ). a ∷ b ∷ c ∷ d ∷ l) rest.is ∙ ap (λ (l : List ℕ). l ++ encode_of standard rest.bytes) w.0 ∙ sym (encode_of-append standard x rest.bytes whole);
      count = omega (arith, length-append x rest.bytes, rest.count);
    }

pub whole_front : (f r : List ℕ) (k : ℕ) → length f ≡ 4 * k → IsBytes f → 3 * k ≤ length (good (f ++ r)) → IsWholeWord f k
unfolding good
whole_front [] r k len are long = record { bytes = []; are = refl; is = sym (encode_of-nil standard); count = omega arith }
whole_front (a ∷ []) r k len are long = absurd (omega arith)
whole_front (a ∷ b ∷ []) r k len are long = absurd (omega arith)
whole_front (a ∷ b ∷ c ∷ []) r k len are long = absurd (omega arith)
whole_front (a ∷ b ∷ c ∷ d ∷ f) r k len are long =
    whole_group a b c d f r k (group (a ∷ b ∷ c ∷ d ∷ [])) refl (first_bytes a b c d f are) (omega arith) (whole_front f r (k - 1) (omega arith) (later_bytes a b c d f are)) long
