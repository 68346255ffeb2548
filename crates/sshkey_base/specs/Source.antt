-- What a reader has before it.
use Rattle.std.specs.Prelude.{◌≡◌, ℕ, ◌+◌, ◌-◌, ◌<◌, List, [], ◌∷◌, ◌++◌, length, take, drop, true, Result, Ok, Err}
use Rattle.sshkey_model.specs.Parts.{are_bytes}
use Rattle.sshkey_base.specs.declared.encoding.Error.{Error}
use Rattle.sshkey_base.specs.declared.encoding.Error.TheVariants.{Length}

-- A reader while a part of it is read: its name, the bytes after that part, and how many it lacks.
pub record Outer : Type 0 where
  pub name : ℕ
  pub rest : List ℕ
  pub missing : ℕ

-- The bytes left before the end or the fault, how many more were announced and cannot be read, and
-- the readers around this one.
pub record Source : Type 0 where
  pub left : List ℕ
  pub missing : ℕ
  pub outer : List Outer

-- all of some bytes
abbrev pub all_of : List ℕ → Source
all_of b = record { left = b; missing = 0; outer = [] }

-- All that was announced can be read.
abbrev pub IsSound : Source → Type 0
IsSound s = s.missing ≡ 0

-- what `remaining_len` answers
abbrev pub announced_len : Source → ℕ
announced_len s = length s.left + s.missing

-- The bytes were taken from the front, and nothing else changed.
pub record Advances (s : Source) (bytes : List ℕ) (t : Source) : Type 0 where
  pub taken : s.left ≡ bytes ++ t.left
  pub missing : t.missing ≡ s.missing
  pub outer : t.outer ≡ s.outer
  pub are : are_bytes bytes ≡ true

-- Too few bytes are left, which a sound source says by `Length`.
pub record TooFew (s : Source) (count : ℕ) (e : Error) : Type 0 where
  pub few : length s.left < count
  pub sound : IsSound s → e ≡ Length

-- The same source, at the same place or at a later one: some bytes were passed, and nothing else
-- changed.
pub record Later (s t : Source) : Type 0 where
  pub passed : List ℕ
  pub left : s.left ≡ passed ++ t.left
  pub missing : t.missing ≡ s.missing
  pub outer : t.outer ≡ s.outer

-- The source after its next `n` bytes.
abbrev pub after : ℕ → Source → Source
after n s = record { left = drop n s.left; missing = s.missing; outer = s.outer }

-- a call that takes as many bytes as it is given
abbrev pub Takes : Source → List ℕ → Result (Unit {0}) Error → Source → Type 0
Takes s bytes (Ok _) t = Advances s bytes t
Takes s bytes (Err e) t = TooFew s (length bytes) e

-- The next n bytes of a reader as a reader of their own.
abbrev pub part : ℕ → ℕ → Source → Source
part name n s = record {
  left = take n s.left;
  missing = n - length s.left;
  outer = record { name = name; rest = drop n s.left; missing = s.missing } ∷ s.outer;
}
