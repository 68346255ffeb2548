-- Two digits of a table for one more byte.
use Rattle.std.proofs.Common.{◌≡◌, ℕ, ◌+◌, ◌/◌, ◌%◌, ◌<◌, List, [], ◌∷◌, ◌++◌, get_or, take, length, refl, ap, IsAscii}
use Rattle.std.specs.Char.{encode_utf8}
use Rattle.std.proofs.lemmas.List.{take_more}
use Rattle.std.proofs.lemmas.Str.{encode_ascii}
use Rattle.hex.specs.Hex.{encode_with}

-- the text so far, and one more byte
encode_more : (table xs : List ℕ) (b : ℕ) → encode_with table xs ++ (get_or table (b / 16) 0 ∷ get_or table (b % 16) 0 ∷ []) ≡ encode_with table (xs ++ b ∷ [])
unfolding encode_with
encode_more table [] b = refl
encode_more table (x ∷ xs) b = ap (λ rest. get_or table (x / 16) 0 ∷ get_or table (x % 16) 0 ∷ rest) (encode_more table xs b)

-- the same of the bytes of a slice, where the digits are written as characters
pub one_more : (table bytes : List ℕ) (i high low : ℕ) → IsAscii table → i < length bytes → high ≡ get_or table (get_or bytes i 0 / 16) 0 → low ≡ get_or table (get_or bytes i 0 % 16) 0 → encode_with table (take i bytes) ++ (encode_utf8 high ++ encode_utf8 low) ≡ encode_with table (take (i + 1) bytes)
one_more table bytes i high low ascii inside is was =
    let b = get_or bytes i 0 in
    rw (is, was, encode_ascii _ (ascii (b / 16)), encode_ascii _ (ascii (b % 16)), take_more bytes i 0 inside) (encode_more table (take i bytes) b)

-- no byte yet
pub encode_none : (table : List ℕ) → [] ≡ encode_with table []
unfolding encode_with
encode_none table = refl
