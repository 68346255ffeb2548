-- Plain readers on lists: from left to right, with the first fault that is met.
use Rattle.std.specs.Prelude.{ℕ, zero, suc, List, [], ◌∷◌, length, take, drop, Option, Some, None, Result, Ok, Err, nat_lt, bytes_eq, if◌then◌else◌}
use Rattle.std.specs.Int.{Width, w32, byte_len, from_be_bytes}
use Rattle.sshkey_model.specs.Parts.{are_bytes}

-- Why bytes are refused, by the names of the errors.
pub data Fault : Type 0 where
  -- of the encoding: a length, a text that is not UTF-8, a name, a rest of that many bytes in a box
  -- or after a value
  Length CharacterEncoding Label : Fault
  TrailingData : ℕ → Fault
  -- of what it carries; `PublicKey` is of a private key that has another one
  FormatEncoding AlgorithmUnknown Crypto Ecdsa Time Namespace PublicKey : Fault
  Version : ℕ → Fault
  -- that many bytes after an encrypted key
  TrailingKeyData : ℕ → Fault

-- a step, and the next one if it did not fail; a `do` block is made of these
infixl 10 ◌>>=◌
abbrev pub ◌>>=◌ : {A B : Type 0} → Result A Fault → (A → Result B Fault) → Result B Fault
(Ok x) >>= f = f x
(Err e) >>= f = Err e

-- A front reader gives a value and the bytes after it.
abbrev pub Front : Type 0 → Type 0
Front A = List ℕ → Result (A × List ℕ) Fault

-- A whole reader takes all bytes.
abbrev pub Whole : Type 0 → Type 0
Whole A = List ℕ → Result A Fault

-- nothing may be left
abbrev pub end_of : {A : Type 0} → A → List ℕ → Result A Fault
end_of x [] = Ok x
end_of x (b ∷ rest) = Err (TrailingData (length (b ∷ rest)))

-- A front that must be all there is.
abbrev pub whole : {A : Type 0} → Front A → Whole A
whole read b = read b >>= λ x. end_of x.0 x.1

-- the next n bytes; a number above 255 is none
unfoldable pub bytes_at : ℕ → Front (List ℕ)
bytes_at n b =
    if nat_lt (length b) n then Err Length
    else if are_bytes (take n b) then Ok (take n b, drop n b)
    else Err Length

-- all the bytes
abbrev pub all_from : Whole (List ℕ)
all_from b = if are_bytes b then Ok b else Err Length

-- a number, most significant byte first
unfoldable pub number_at : Width → Front ℕ
number_at w b = do
  n ← bytes_at (byte_len w) b
  Ok (from_be_bytes w n.0, n.1)

-- a length, and that many bytes
unfoldable pub string_at : Front (List ℕ)
string_at b = do
  n ← number_at w32 b
  bytes_at n.0 n.1

-- a length, and that many bytes, which the whole reader takes
unfoldable pub box_at : {A : Type 0} → Whole A → Front A
box_at read b = do
  n ← number_at w32 b
  if nat_lt (length n.1) n.0 then Err Length else (read (take n.0 n.1) >>= λ x. Ok (x, drop n.0 n.1))

-- a value, and what it asks for after it
unfoldable pub after_at : {A B : Type 0} → Front A → (A → Front B) → Front (A × B)
after_at read next b = do
  x ← read b
  y ← next x.0 x.1
  Ok ((x.0, y.0), y.1)

-- the plain reader of no value
abbrev pub never_at : {A : Type 0} → Front A
never_at b = Err Length

-- a value, and then what the test makes of it
abbrev pub checked_at : {A B : Type 0} → (A → Result B Fault) → Front A → Front B
checked_at check read b = do
  x ← read b
  y ← check x.0
  Ok (y, x.1)

-- just these bytes
abbrev pub literal_from : List ℕ → List ℕ → Result (List ℕ) Fault
literal_from text b = if bytes_eq b text then Ok b else Err FormatEncoding

unfoldable pub literal_at : List ℕ → Front (List ℕ)
literal_at text = checked_at (literal_from text) (bytes_at (length text))

-- the same of all bytes
abbrev pub checked_whole : {A B : Type 0} → (A → Result B Fault) → Whole A → Whole B
checked_whole check read b = read b >>= check

-- One after the other up to the end; each may depend on the one before. The number bounds how many
-- there are.
unfoldable pub list_within : {A : Type 0} → (Option A → Front A) → ℕ → Option A → Whole (List A)
list_within item n before [] = Ok []
list_within item zero before (b ∷ rest) = Err Length
list_within item (suc n) before (b ∷ rest) = do
  x ← item before (b ∷ rest)
  xs ← list_within item n (Some x.0) x.1
  Ok (x.0 ∷ xs)

abbrev pub list_whole : {A : Type 0} → (Option A → Front A) → Whole (List A)
list_whole item b = list_within item (length b) None b

-- A reader of all bytes, as one that leaves none.
abbrev pub to_end : {A : Type 0} → Whole A → Front A
to_end read b = do
  x ← read b
  Ok (x, [])

-- Each fits after the one before it.
unfoldable pub IsChain : {A : Type 0} → (Option A → A → Type 0) → Option A → List A → Type 0
IsChain Follows before [] = Unit {0}
IsChain Follows before (x ∷ xs) = Follows before x × IsChain Follows (Some x) xs
