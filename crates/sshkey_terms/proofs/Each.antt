-- A loop that reads values up to the end: it leaves less each time, and asks for memory where its
-- first value does, or stands.
use Rattle.std.proofs.Common.{◌≡◌, ◌≢◌, ◌⊎◌, inl, inr, ◌<◌, ◌+◌, Bool, true, false, ℕ, Option, List, length, Result, Ok, ap, arith}
use Rattle.std.proofs.lemmas.List.{length-append}
use Rattle.sshkey_model.specs.Reading.{Fault, Length, never_at}
use Rattle.sshkey_base.specs.Causes.{Cause, NoMemory, Faulty}
use Rattle.sshkey_model.specs.Formats.{Format, IsFormat}
use Rattle.sshkey_base.specs.Reading.{IsRefused, Reads}
use Rattle.sshkey_base.specs.Source.{Later, Source, IsSound, announced_len}
use Rattle.sshkey_base.specs.Stops.{RanOut, Stopped}
use Rattle.sshkey_base.proofs.FirstValues.{Begun, first_asks, first_stopped, still_begun}
use Rattle.sshkey_base.proofs.ReadLists.{StillOverruns}
use Rattle.sshkey_model.specs.ToEnd.{HasBytes, NeedsEach, OverrunsEach}

pub some_left : (finished : Bool) (n : ℕ) → (n ≡ 0 → finished ≡ true) → finished ≡ false → n ≢ 0
some_left true n is left none = absurd cc
some_left false n is left none = let t = is none in absurd cc

-- memory ran out, which is no fault of the bytes
pub full_refused : {Y : Type 0} (missing : ℕ) (c : Cause) (found : Result Y Fault) → c ≡ NoMemory → IsRefused missing c found
full_refused missing c found memory = record { fault = λ other sound. absurd (other memory) }

-- no list ends by itself, so a length alone is in question
pub end_stopped : {A : Type 0} (c : Cause) (needs overruns : List ℕ → ℕ → Type 0) (s : Source) → (overruns s.left s.missing → (c ≡ Faulty Length) ⊎ RanOut c needs s) → Stopped c (never_at {A = A}) needs overruns s
end_stopped c needs overruns s past = record { takes = λ ok. absurd cc; past = past }

module _ {A : Type 0} (f : Format A) where
  -- a value that has bytes leaves less
  pub leaves_less : IsFormat f → HasBytes f → (b : List ℕ) (x : A) (rest : List ℕ) → f.read b ≡ Ok (x, rest) → length rest < length b
  leaves_less laws shows b x rest e =
      let t = laws.grammar.takes b x rest e in
      omega (arith, shows x t.0 t.1, ap length t.2, length-append t.0 rest)

  module _ (s t : Source) (begun : Begun f.read s t) (later : Later s t) (some : announced_len t ≢ 0) where
    some_first : 0 < length s.left + s.missing
    some_first = omega (arith, some, ap length later.left, length-append later.passed t.left, later.missing)

    -- a value is refused
    pub each_asks : (c : Cause) → (c ≡ NoMemory → IsSound t → f.needs t.left t.missing) → c ≡ NoMemory → IsSound s → NeedsEach f s.left s.missing
    each_asks c asks memory sound = (some_first, first_asks f.read s t begun f.needs c later.missing asks memory sound)

    pub each_stopped : (c : Cause) (before : Option A) → StillOverruns (λ _. f.delimited_at) f.overruns s before t → Stopped c f.delimited_at f.needs f.overruns t → OverrunsEach f s.left s.missing → (c ≡ Faulty Length) ⊎ RanOut c (NeedsEach f) s
    each_stopped c before still h o = elim (first_stopped f.read s t begun f.needs f.delimited_at f.overruns c before still h o) [
      | inl is ↦ inl is
      | inr m ↦ inr (record { memory = m.memory; needed = (some_first, m.needed) })
    ]

    -- there is no memory for a value that was read
    pub full_needs : {X : Type 0} (means : X → A) (x : X) (u : Source) → Reads means f.read t x u → NeedsEach f s.left s.missing
    full_needs means x u r = (some_first, inr (still_begun f.read s t begun means x u r))

    pub full_stopped : {X : Type 0} (means : X → A) (x : X) (u : Source) (c : Cause) → Reads means f.read t x u → c ≡ NoMemory → (c ≡ Faulty Length) ⊎ RanOut c (NeedsEach f) s
    full_stopped means x u c r memory = inr (record { memory = memory; needed = full_needs means x u r })
