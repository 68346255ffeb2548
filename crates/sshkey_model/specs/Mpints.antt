-- Whole numbers of any size, in two's complement (RFC 4251, section 5).
use Rattle.std.specs.Prelude.{◌≡◌, ℕ, zero, suc, List, [], ◌∷◌, Bool, true, false, Option, Some, None, Result, Ok, Err, nat_lt, if◌then◌else◌}
use Rattle.sshkey_model.specs.Reading.{Fault, FormatEncoding, Front, string_at, checked_at}
use Rattle.sshkey_model.specs.Grammar.{Spells}
use Rattle.sshkey_model.specs.Formats.{Format}
use Rattle.sshkey_model.specs.Needs.{NeedsString}
use Rattle.sshkey_model.specs.Overruns.{OverrunsString}
use Rattle.sshkey_model.specs.Texts.{string}

-- Not the byte 00 alone, nor 00 before a byte below 80. (The RFC forbids a needless leading ff too;
-- it is let through.)
abbrev pub is_mpint : List ℕ → Bool
is_mpint [] = true
is_mpint (zero ∷ []) = false
is_mpint (zero ∷ b ∷ rest) = if nat_lt b 0x80 then false else true
is_mpint (suc a ∷ rest) = true

abbrev pub IsMpint : List ℕ → Type 0
IsMpint b = is_mpint b ≡ true

-- the bytes of a positive number, without the 00 that may stand first; zero and negative numbers
-- have none
abbrev pub positive_part : List ℕ → Option (List ℕ)
positive_part [] = None
positive_part (zero ∷ rest) = Some rest
positive_part (suc a ∷ rest) = if nat_lt (suc a) 0x80 then Some (suc a ∷ rest) else None

-- the mpint of a number that is not negative, from its bytes
abbrev pub of_positive : List ℕ → List ℕ
of_positive [] = []
of_positive (zero ∷ rest) = of_positive rest
of_positive (suc a ∷ rest) = if nat_lt (suc a) 0x80 then suc a ∷ rest else zero ∷ suc a ∷ rest

-- ---- reading

abbrev pub mpint_from : List ℕ → Result (List ℕ) Fault
mpint_from b = if is_mpint b then Ok b else Err FormatEncoding

unfoldable pub mpint_at : Front (List ℕ)
mpint_at = checked_at mpint_from string_at

-- a string that is a number's bytes
abbrev pub SpellsMpint : List ℕ → List ℕ → Type 0
SpellsMpint = Spells IsMpint string

abbrev pub mpint_format : Format (List ℕ)
mpint_format = record { Spells = SpellsMpint; read = mpint_at; delimited_at = mpint_at; needs = NeedsString; overruns = OverrunsString }
