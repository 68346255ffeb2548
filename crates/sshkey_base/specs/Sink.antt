-- What a writer holds, and what a writing call adds to it.
use Rattle.std.specs.Prelude.{◌≡◌, ℕ, ◌+◌, ◌<◌, ◌≤◌, ◌^◌, List, ◌++◌, length, take, true, Option, IfSome, Result, Ok, Err, ◌⊎◌, Vec}
use Rattle.sshkey_model.specs.Parts.{Parts, box, flat, are_bytes, BoxesFit, Fits}
use Rattle.sshkey_base.specs.declared.encoding.Error.{Error}
use Rattle.sshkey_base.specs.declared.encoding.Error.TheVariants.{Length, Memory}

-- The bytes written, and how many it can hold where that is bounded.
pub record Sink : Type 0 where
  pub written : List ℕ
  pub limit : Option ℕ

-- The bytes were added.
pub record Wrote (s : Sink) (bytes : List ℕ) (t : Sink) : Type 0 where
  pub added : t.written ≡ s.written ++ bytes
  pub limit : t.limit ≡ s.limit
  pub are : are_bytes bytes ≡ true

-- A beginning of the bytes was added, which may be none of them, and nothing else changed.
pub record WrotePrefix (s : Sink) (bytes : List ℕ) (t : Sink) : Type 0 where
  pub count : ℕ
  pub added : t.written ≡ s.written ++ take count bytes
  pub limit : t.limit ≡ s.limit

-- The writer refused, by a fault of its own, which a bounded one has only where there is no room.
pub record Stopped (fault : Error → Type 0) (s : Sink) (bytes : List ℕ) (e : Error) (t : Sink) : Type 0 where
  pub own : fault e
  pub full : IfSome s.limit (λ n. n < length s.written + length bytes)
  pub prefix : WrotePrefix s bytes t

-- what a write gives
abbrev pub Writes : (Error → Type 0) → Sink → List ℕ → Result (Unit {0}) Error → Sink → Type 0
Writes fault s bytes (Ok _) t = Wrote s bytes t
Writes fault s bytes (Err e) t = Stopped fault s bytes e t

-- ---- values

-- The parts are added.
unfoldable pub after : Parts → Sink → Sink
after p s = record { written = s.written ++ flat p; limit = s.limit }

-- The parts were added, and fit.
abbrev pub Written : Parts → Sink → Sink → Type 0
Written p s t = Fits p × (t ≡ after p s)

-- A box of the parts is too long.
pub record TooLong (p : Parts) (s : Sink) (e : Error) (t : Sink) : Type 0 where
  pub misfit : BoxesFit p → ⊥
  pub is : e ≡ Length
  pub prefix : WrotePrefix s (flat p) t

-- why parts were not added
unfoldable pub NotWritten : (Error → Type 0) → Parts → Sink → Error → Sink → Type 0
NotWritten fault p s e t = TooLong p s e t ⊎ Stopped fault s (flat p) e t

-- what an encoding call gives
abbrev pub Encodes : (Error → Type 0) → Parts → Sink → Result (Unit {0}) Error → Sink → Type 0
Encodes fault p s (Ok _) t = Written p s t
Encodes fault p s (Err e) t = NotWritten fault p s e t

-- How many bytes the parts have: exactly where a box of them is too long, the answer is `Length`.
abbrev pub Measures : Parts → Result ℕ Error → Type 0
Measures p (Ok n) = BoxesFit p × (n ≡ length (flat p))
Measures p (Err e) = (BoxesFit p → ⊥) × (e ≡ Length)

-- The same of the parts in a box, without its length.
abbrev pub MeasuresBoxed : Parts → Result ℕ Error → Type 0
MeasuresBoxed p (Ok n) = BoxesFit (box p) × (n ≡ length (flat p))
MeasuresBoxed p (Err e) = (BoxesFit (box p) → ⊥) × (e ≡ Length)

-- What a call gives that makes the bytes of the parts: `Length` exactly where a box of them is too
-- long, else only out of memory.
abbrev pub MakesBytes : {Z : Type 0} → Parts → Result (Vec ℕ Z) Error → Type 0
MakesBytes p (Ok v) = Fits p × (v.items ≡ flat p)
MakesBytes p (Err e) = ((BoxesFit p → ⊥) × (e ≡ Length)) ⊎ (BoxesFit p × (e ≡ Memory))

-- a number that has to fit four bytes
abbrev pub IsLength : ℕ → Result ℕ Error → Type 0
IsLength len (Ok n) = (n ≡ len) × (len < 2 ^ 32)
IsLength len (Err e) = (2 ^ 32 ≤ len) × (e ≡ Length)
