-- A word in Base64 is ASCII without white space, and is that of one blob.
use Rattle.std.proofs.Common.{◌≡◌, ℕ, zero, suc, ◌<◌, ◌+◌, ◌*◌, ◌/◌, ◌%◌, List, [], ◌∷◌, length, sym, ap, ◌∙◌, refl, arith, slice_index, Result, Ok, true, Bool, not, eqb, ◌&&◌, replicate, eq-eqb}
use Rattle.std.specs.List.{All}
use Rattle.std.proofs.lemmas.Bool.{and_parts}
use Rattle.std.proofs.lemmas.List.{length-append}
use Rattle.std.proofs.lemmas.List.Elements.{All-nil, All-cons, All-append, All-replicate, All-get_or}
use Rattle.base64.specs.Rfc4648.{encode_symbols, encode_group, padding_len}
use Rattle.base64.specs.Engines.{standard}
use Rattle.base64.specs.GeneralPurpose.{encode_of, decode_of, IsBytes}
use Rattle.base64.proofs.RoundTrip.{length-encode_symbols}
use Rattle.base64.specs.declared.decode.DecodeError.{DecodeError}
use Rattle.base64.proofs.EngineFacts.{decode_of-encode_of}
use Rattle.sshkey_model.specs.Lines.{space, IsWithout}
use Rattle.std.specs.Prelude.{nat_lt}
use Rattle.std.specs.Char.{is_whitespace}

-- a character of the table, or the padding
module _ (is_good : ℕ → Bool) where
  abbrev Good : ℕ → Type 0
  Good c = is_good c ≡ true

  -- each symbol of a table
  abbrev Symbols : List ℕ → Type 0
  Symbols t = (i : ℕ) → Good (slice_index t i)

  good_one : (t : List ℕ) (i : ℕ) → Symbols t → All Good (slice_index t i ∷ [])
  good_one t i h = All-cons Good (slice_index t i) [] (h i) (All-nil Good)

  good_two : (t : List ℕ) (i j : ℕ) → Symbols t → All Good (slice_index t i ∷ slice_index t j ∷ [])
  good_two t i j h = All-cons Good (slice_index t i) (slice_index t j ∷ []) (h i) (good_one t j h)

  good_three : (t : List ℕ) (i j k : ℕ) → Symbols t → All Good (slice_index t i ∷ slice_index t j ∷ slice_index t k ∷ [])
  good_three t i j k h = All-cons Good (slice_index t i) (slice_index t j ∷ slice_index t k ∷ []) (h i) (good_two t j k h)

  good_four : (t : List ℕ) (i j k l : ℕ) → Symbols t → All Good (slice_index t i ∷ slice_index t j ∷ slice_index t k ∷ slice_index t l ∷ [])
  good_four t i j k l h = All-cons Good (slice_index t i) (slice_index t j ∷ slice_index t k ∷ slice_index t l ∷ []) (h i) (good_three t j k l h)

  symbols_good : (t m : List ℕ) → Symbols t → All Good (encode_symbols t m)
  unfolding encode_symbols
  symbols_good t [] h = All-nil Good
  symbols_good t (a ∷ []) h = good_two t (a / 4) (a % 4 * 16) h
  symbols_good t (a ∷ b ∷ []) h = good_three t (a / 4) (a % 4 * 16 + b / 16) (b % 16 * 4) h
  symbols_good t (a ∷ b ∷ c ∷ rest) h =
      All-append Good (encode_group t a b c) (encode_symbols t rest)
      (good_four t (a / 4) (a % 4 * 16 + b / 16) (b % 16 * 4 + c / 64) (c % 64) h)
      (symbols_good t rest h)

  abbrev are_good : List ℕ → Bool
  are_good [] = true
  are_good (c ∷ cs) = is_good c && are_good cs

  -- beyond the table the index gives 0
  each_good : (t : List ℕ) → is_good 0 ≡ true → are_good t ≡ true → Symbols t
  each_good [] beyond e i = beyond
  each_good (c ∷ cs) beyond e zero = (and_parts (is_good c) (are_good cs) e).0
  each_good (c ∷ cs) beyond e (suc i) = each_good cs beyond (and_parts (is_good c) (are_good cs) e).1 i

  word_good : is_good 0 ≡ true → is_good 61 ≡ true → are_good standard.encode_table ≡ true → (b : List ℕ) → All Good (encode_of standard b)
  word_good beyond padding table b = All-append Good (encode_symbols standard.encode_table b) (replicate (padding_len (length b)) 61) (symbols_good standard.encode_table b (each_good standard.encode_table beyond table)) (All-replicate Good (padding_len (length b)) 61 padding)

-- ASCII, and no white space
abbrev pub is_dark : ℕ → Bool
is_dark c = nat_lt c 0x80 && not (is_whitespace c)

abbrev pub IsDark : ℕ → Type 0
IsDark c = is_dark c ≡ true

pub word_dark : (b : List ℕ) → All IsDark (encode_of standard b)
word_dark = word_good is_dark refl refl refl

-- a character that is neither 0, nor a symbol, nor the padding stands in no word
abbrev pub is_other_than : ℕ → ℕ → Bool
is_other_than other c = not (eqb c other)

pub word_lacks : (other : ℕ) → is_other_than other 0 ≡ true → is_other_than other 61 ≡ true → are_good (is_other_than other) standard.encode_table ≡ true → (b : List ℕ) → IsWithout other (encode_of standard b)
word_lacks other beyond padding table b = λ i lt e. cc (sym (All-get_or (Good (is_other_than other)) (encode_of standard b) i 0 lt (word_good (is_other_than other) beyond padding table b)) ∙ ap not (eq-eqb _ other e))

pub word_not : (b : List ℕ) → IsWithout space (encode_of standard b)
word_not = word_lacks space refl refl refl

pub some_word : (b : List ℕ) → 0 < length b → 0 < length (encode_of standard b)
some_word b some = omega (arith, length-append (encode_symbols standard.encode_table b) (replicate (padding_len (length b)) 61), length-encode_symbols standard.encode_table b)

abbrev decoded : List ℕ → Result (List ℕ) DecodeError
decoded b = Ok b

-- two blobs with one word are one
pub one_blob : (a b : List ℕ) → IsBytes a → IsBytes b → encode_of standard a ≡ encode_of standard b → a ≡ b
one_blob a b fits also e =
    let both : decoded a ≡ decoded b = sym (decode_of-encode_of standard a refl fits) ∙ ap (decode_of standard) e ∙ decode_of-encode_of standard b refl also in
    cc both
