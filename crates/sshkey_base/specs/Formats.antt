-- What a call says that reads a value of a format.
use Rattle.std.specs.Prelude.{◌≡◌, ◌≢◌, ℕ, List, ◌++◌, Result, Ok, Err}
use Rattle.sshkey_model.specs.Formats.{Format}
use Rattle.sshkey_model.specs.Grammar.{MayFollow}
use Rattle.sshkey_base.specs.Causes.{Cause, NoMemory}
use Rattle.sshkey_base.specs.Source.{Source, IsSound}
use Rattle.sshkey_base.specs.Stops.{StopsBy}

-- How a call refuses that reads it, whatever the source: a value that ends by itself, and stands
-- whole before the fault, is refused only for memory that it needs.
abbrev pub Stops : {X Y E : Type 0} → (E → Cause) → Format Y → Source → Result X E → Type 0
Stops cause f s r = StopsBy cause f.delimited_at f.needs f.overruns s r

-- The bytes begin with a spelling of the value, and the rest follows it.
pub record Begins {Y : Type 0} (f : Format Y) (y : Y) (bytes rest : List ℕ) : Type 0 where
  pub front : List ℕ
  pub spelled : f.Spells y front
  pub all : bytes ≡ front ++ rest
  pub may_follow : MayFollow f.delimited_at y front rest

-- The bytes that were taken spell the value, and nothing else changed. A sound source is refused
-- when out of memory, or because it begins with no value.
abbrev pub AcceptsBeginning : {X Y E : Type 0} → (X → Y) → Format Y → (E → Cause) → Source → Result X E → Source → Type 0
AcceptsBeginning means f cause s (Ok x) t = Begins f (means x) s.left t.left × (t.missing ≡ s.missing) × (t.outer ≡ s.outer)
AcceptsBeginning {Y = Y} means f cause s (Err e) t = cause e ≢ NoMemory → IsSound s → (y : Y) (rest : List ℕ) → Begins f y s.left rest → ⊥
