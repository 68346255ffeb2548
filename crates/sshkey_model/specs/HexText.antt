-- Bytes written as hexadecimal text.
use Rattle.std.specs.Prelude.{ℕ, ◌+◌, ◌-◌, ◌*◌, List, [], ◌∷◌, nat_lt, ◌==◌, if◌then◌else◌, codes}
use Prim.Native.String.{String}

-- the value of a digit, 0 to 9 or a to f
abbrev pub digit_value : ℕ → ℕ
digit_value c = if nat_lt c 0x61 then c - 0x30 else c - 0x57

abbrev pub digit_values : List ℕ → List ℕ
digit_values [] = []
digit_values (c ∷ rest) = if c == 0x20 then digit_values rest else (digit_value c ∷ digit_values rest)

abbrev pub byte_values : List ℕ → List ℕ
byte_values (high ∷ low ∷ rest) = (16 * high + low) ∷ byte_values rest
byte_values _ = []

-- The bytes of the text, two digits each; blanks only group.
abbrev pub hex : String → List ℕ
hex text = byte_values (digit_values (codes text))
