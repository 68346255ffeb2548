-- Which bytes spell which value.
use Rattle.std.specs.Prelude.{◌≡◌, ◌⊎◌, ◌<◌, ◌^◌, List, [], ◌++◌, length, ℕ, Result, Ok, refl}
use Rattle.std.specs.Int.{w32, to_be_bytes}
use Rattle.sshkey_model.specs.Parts.{Parts, flat, Fits}
use Rattle.sshkey_model.specs.Reading.{Fault, ◌>>=◌, Front}

-- The bytes spell the value: it is well-formed, it fits, and these are its parts.
pub record Spells {V : Type 0} (Is : V → Type 0) (spell : V → Parts) (value : V) (b : List ℕ) : Type 0 where
  pub is : Is value
  pub fits : Fits (spell value)
  pub shape : b ≡ flat (spell value)

-- what is written of a value is its spelling
pub normal_is_spelling : {V : Type 0} {Is : V → Type 0} {spell : V → Parts} (value : V) → Is value → Fits (spell value) → Spells Is spell value (flat (spell value))
normal_is_spelling value is fits = record { is = is; fits = fits; shape = refl }

-- The same for a value with parts that may be spelled in several ways: each choice has its place.
pub record SpellsWith {V S : Type 0} (Is : V → Type 0) (HasPlace : V → S → Type 0) (spell : V → S → Parts) (value : V) (b : List ℕ) : Type 0 where
  pub is : Is value
  pub choices : S
  pub place : HasPlace value choices
  pub fits : Fits (spell value choices)
  pub shape : b ≡ flat (spell value choices)

-- A well-formed value and choices that have their places.
pub record IsSpelled {V S : Type 0} (Is : V → Type 0) (HasPlace : V → S → Type 0) (x : V × S) : Type 0 where
  pub is : Is x.0
  pub place : HasPlace x.0 x.1

abbrev pub spelled : {V S : Type 0} → (V → S → Parts) → V × S → Parts
spelled spell x = spell x.0 x.1

-- The bytes spell the value as the choices say.
abbrev pub SpellsAs : {V S : Type 0} → (V → Type 0) → (V → S → Type 0) → (V → S → Parts) → V × S → List ℕ → Type 0
SpellsAs Is HasPlace spell = Spells (IsSpelled Is HasPlace) (spelled spell)

-- the value without its choices
abbrev pub value_at : {V S : Type 0} → Front (V × S) → Front V
value_at read b = do
  x ← read b
  Ok (x.0.0, x.1)

-- The reader takes exactly the spellings, from the front of any list.
pub record IsGrammar {V : Type 0} (Spelling : V → List ℕ → Type 0) (read : Front V) : Type 0 where
  -- what is taken is a spelling of the value
  pub takes : (b : List ℕ) (value : V) (rest : List ℕ) → read b ≡ Ok (value, rest) → (front : List ℕ) × Spelling value front × (b ≡ front ++ rest)
  -- a spelling is taken, whatever follows it
  pub again : (value : V) (front rest : List ℕ) → Spelling value front → read (front ++ rest) ≡ Ok (value, rest)

-- The rest may follow the value: there is none, or the value ends by itself.
abbrev pub MayFollow : {A : Type 0} → Front A → A → List ℕ → List ℕ → Type 0
MayFollow delimited_at value front rest = (rest ≡ []) ⊎ (delimited_at front ≡ Ok (value, []))

-- The reader takes exactly the spellings, where some values end by themselves.
-- `delimited_at` is the plain reader of these; nothing may follow any other value.
pub record Grammar {A : Type 0} (Spells : A → List ℕ → Type 0) (read delimited_at : Front A) : Type 0 where
  -- `read` takes what it takes
  pub same : (b : List ℕ) (x : A × List ℕ) → delimited_at b ≡ Ok x → read b ≡ Ok x
  -- whatever follows
  pub before : (b : List ℕ) (value : A) (rest more : List ℕ) → delimited_at b ≡ Ok (value, rest) → delimited_at (b ++ more) ≡ Ok (value, rest ++ more)
  -- what `read` takes is a spelling; where bytes are left, `delimited_at` takes it too, so no value
  -- is kept from it that others may follow
  pub takes : (b : List ℕ) (value : A) (rest : List ℕ) → read b ≡ Ok (value, rest) → (front : List ℕ) × Spells value front × (b ≡ front ++ rest) × MayFollow delimited_at value front rest
  -- and a spelling is taken
  pub alone : (value : A) (front : List ℕ) → Spells value front → read front ≡ Ok (value, [])

-- ---- what is spelled of parts

-- The bytes spell the first value, and after it the second, whose spelling may depend on the first.
-- If the second has bytes, the first ends by itself.
pub record SpellsThen {A B : Type 0} (First : A → List ℕ → Type 0) (delimited_at : Front A) (Second : A → B → List ℕ → Type 0) (value : A × B) (bytes : List ℕ) : Type 0 where
  pub front : List ℕ
  pub after : List ℕ
  pub first : First value.0 front
  pub second : Second value.0 value.1 after
  pub all : bytes ≡ front ++ after
  pub may_follow : MayFollow delimited_at value.0 front after

-- The bytes spell a value from which the test makes this one.
pub record SpellsTested {A B : Type 0} (Inner : A → List ℕ → Type 0) (test : A → Result B Fault) (value : B) (bytes : List ℕ) : Type 0 where
  pub inner : A
  pub spelled : Inner inner bytes
  pub makes : test inner ≡ Ok value

-- A length of four bytes, and that many bytes, which spell the value.
pub record SpellsBoxed {Y : Type 0} (Spells : Y → List ℕ → Type 0) (y : Y) (bytes : List ℕ) : Type 0 where
  pub inside : List ℕ
  pub spelled : Spells y inside
  pub short : length inside < 2 ^ 32
  pub whole : bytes ≡ to_be_bytes w32 (length inside) ++ inside

-- What a test gives is spelled as what it was given, and each value that is so comes from one.
pub record Checks {A B : Type 0} (Was : A → Type 0) (spelled : A → Parts) (Is : B → Type 0) (spell : B → Parts) (check : A → Result B Fault) : Type 0 where
  pub takes : (a : A) (b : B) → Was a → check a ≡ Ok b → Is b × (spelled a ≡ spell b)
  pub again : (b : B) → Is b → (a : A) × Was a × (check a ≡ Ok b) × (spelled a ≡ spell b)
