-- A format: how values are spelled, and what a reading call makes of bytes.
use Rattle.std.specs.Prelude.{ℕ, List}
use Rattle.sshkey_model.specs.Reading.{Front}
use Rattle.sshkey_model.specs.Grammar.{Grammar}
use Rattle.sshkey_model.specs.Overruns.{AreLengths}

pub record Format (A : Type 0) : Type 1 where
  -- the bytes are a spelling of the value
  pub Spells : A → List ℕ → Type 0
  -- the plain reader of lists, with the fault of each refusal
  pub read : Front A
  -- the plain reader of the values that end by themselves; nothing may follow any other
  pub delimited_at : Front A
  -- where memory may run out, by the bytes before the end or the fault and how many more are
  -- announced
  pub needs : List ℕ → ℕ → Type 0
  -- where a stated length passes all of that
  pub overruns : List ℕ → ℕ → Type 0

-- The format is lawful.
pub record IsFormat {A : Type 0} (f : Format A) : Type 0 where
  -- the plain reader takes exactly the spellings, and bytes may follow a value that ends by itself
  pub grammar : Grammar f.Spells f.read f.delimited_at
  -- and refuses with `Length` where a length passes
  pub lengths : AreLengths f.read f.overruns
