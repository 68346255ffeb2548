-- What holds of every value that is read and written.
use Rattle.std.specs.Prelude.{◌≡◌, ℕ, List, ◌++◌, Ok}
use Rattle.sshkey_model.specs.Parts.{Parts, flat, Fits}
use Rattle.sshkey_model.specs.Reading.{Front}
use Rattle.sshkey_base.specs.Formats.{Begins}
use Rattle.sshkey_model.specs.Formats.{Format}
use Rattle.sshkey_model.specs.Grammar.{MayFollow}

-- What is written of a value begins bytes that are read back as that value, where nothing follows
-- it, and whatever follows it where it ends by itself.
abbrev pub ReadBackBeginning : {X M : Type 0} → (X → Type 0) → (X → Parts) → (X → M) → Format M → Type 0
ReadBackBeginning {X} IsWellFormed normal means f = (x : X) (rest : List ℕ) → IsWellFormed x → Fits (normal x) → MayFollow f.delimited_at (means x) (flat (normal x)) rest → f.read (flat (normal x) ++ rest) ≡ Ok (means x, rest)

-- The same where all values end by themselves.
abbrev pub ReadBackBefore : {X M : Type 0} → (X → Type 0) → (X → Parts) → (X → M) → Front M → Type 0
ReadBackBefore {X} IsWellFormed normal means parse = (x : X) (rest : List ℕ) → IsWellFormed x → Fits (normal x) → parse (flat (normal x) ++ rest) ≡ Ok (means x, rest)

-- Bytes begin with one value at most, and with one spelling of it.
abbrev pub OneBeginning : {M : Type 0} → Format M → Type 0
OneBeginning {M} f = (x y : M) (bytes r q : List ℕ) (h : Begins f x bytes r) (k : Begins f y bytes q) → (x ≡ y) × (h.front ≡ k.front) × (r ≡ q)

-- The same where all values end by themselves: no spelling begins another, and none spells two
-- values.
abbrev pub OneFront : {M : Type 0} → (M → List ℕ → Type 0) → Type 0
OneFront {M} Spells = (x y : M) (a b r q : List ℕ) → Spells x a → Spells y b → a ++ r ≡ b ++ q → (x ≡ y) × (a ≡ b) × (r ≡ q)
