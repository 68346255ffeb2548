-- What laws say, in words that are open: a caller of a law has its statement, and need not unfold it.
use Rattle.std.specs.Prelude.{◌≡◌, ◌++◌, ℕ, List}
use Rattle.sshkey_model.specs.Lines.{IsLineOf, written}
use Rattle.sshkey_model.specs.Parts.{Fits, Parts, flat}

-- No spelling begins another.
abbrev pub NoneBegins : {V : Type 0} → (V → Type 0) → (V → Parts) → Type 0
NoneBegins {V} Is spell = (v w : V) (r q : List ℕ) → Is v → Fits (spell v) → Is w → Fits (spell w) → flat (spell v) ++ r ≡ flat (spell w) ++ q → (v ≡ w) × (r ≡ q)

-- A text is the line of one value at most, and with one comment.
abbrev pub IsOfOneValue : {V : Type 0} → (V → List ℕ) → (V → List ℕ → Type 0) → Type 0
IsOfOneValue {V} first Spelling = (text m n : List ℕ) (v w : V) → IsLineOf first Spelling text v m → IsLineOf first Spelling text w n → (v ≡ w) × (m ≡ n)

-- What is read of a line is written as a line that is read back.
abbrev pub IsReadBack : {V : Type 0} → (V → List ℕ) → (V → List ℕ → Type 0) → (V → Parts) → Type 0
IsReadBack {V} first Spelling normal = (text comment : List ℕ) (v : V) → IsLineOf first Spelling text v comment → IsLineOf first Spelling (written (first v) (flat (normal v)) comment) v comment
