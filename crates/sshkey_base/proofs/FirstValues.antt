-- A loop that reads values up to the end asks for memory where its first value does, or stands.
use Rattle.std.proofs.Common.{◌≡◌, ◌⊎◌, inl, inr, ℕ, zero, suc, Option, Some, List, [], ◌∷◌, IsOk, Result, Ok, Err, refl}
use Rattle.std.specs.Prelude.{IsOkAnd}
use Rattle.sshkey_model.specs.Reading.{Fault, Front, Length}
use Rattle.sshkey_base.specs.Causes.{Cause, NoMemory, Faulty}
use Rattle.sshkey_model.specs.Needs.{NeedsFirst}
use Rattle.sshkey_base.specs.Reading.{Reads}
use Rattle.sshkey_base.specs.Source.{Source, IsSound}
use Rattle.sshkey_base.specs.Stops.{RanOut, Stopped}
use Rattle.sshkey_model.specs.Overruns.{OverrunsWithin, OverrunsList}
use Rattle.sshkey_base.proofs.ReadLists.{StillOverruns}

-- Nothing was read yet, or the first value stands there.
abbrev pub Begun : {A : Type 0} → Front A → Source → Source → Type 0
Begun read s t = (t ≡ s) ⊎ IsOk (read s.left)

is_ok : {A : Type 0} (r : Result A Fault) (x : A) → r ≡ Ok x → IsOk r
is_ok r x e = rw e refl

module _ {A : Type 0} (read : Front A) (s t : Source) (begun : Begun read s t) where
  pub still_begun : {X : Type 0} (means : X → A) (x : X) (u : Source) → Reads means read t x u → IsOk (read s.left)
  still_begun means x u r = elim begun [
    | inl same ↦ is_ok (read s.left) (means x, u.left) (rw (← same) r.value)
    | inr ok ↦ ok
  ]

  module _ (needs : List ℕ → ℕ → Type 0) where
    pub needed : needs t.left t.missing → NeedsFirst needs read s.left s.missing
    needed want = elim begun [
      | inl same ↦ inl (rw (← same) want)
      | inr ok ↦ inr ok
    ]

    -- a value is refused
    pub first_asks : (c : Cause) → t.missing ≡ s.missing → (c ≡ NoMemory → IsSound t → needs t.left t.missing) → c ≡ NoMemory → IsSound s → NeedsFirst needs read s.left s.missing
    first_asks c same asks memory sound = needed (asks memory (rw same sound))

    -- the readers are that of all values, and that of those that end by themselves
    pub first_stopped : (delimited_at : Front A) (over : List ℕ → ℕ → Type 0) (c : Cause) (before : Option A) → StillOverruns (λ _. delimited_at) over s before t → Stopped c delimited_at needs over t → OverrunsList (λ _. delimited_at) over s.left s.missing → (c ≡ Faulty Length) ⊎ RanOut c (NeedsFirst needs read) s
    first_stopped delimited_at over c before still h o = go (still o).0 before t.left refl (still o).1
      where
        more : RanOut c needs t → RanOut c (NeedsFirst needs read) s
        more m = record { memory = m.memory; needed = needed m.needed }

        taken : (n : ℕ) (r : Result (A × List ℕ) Fault) → IsOkAnd r (λ x. OverrunsWithin (λ _. delimited_at) over n (Some x.0) x.1 t.missing) → IsOk r
        taken n (Ok x) w = refl
        taken n (Err e) w = absurd w

        go : (n : ℕ) (before : Option A) (b : List ℕ) → b ≡ t.left → OverrunsWithin (λ _. delimited_at) over n before b t.missing → (c ≡ Faulty Length) ⊎ RanOut c (NeedsFirst needs read) s
        go n before [] is w = absurd w
        go zero before (d ∷ b) is w = absurd w
        go (suc n) before (d ∷ b) is (inl w) = elim (h.past (rw is at w)) [
          | inl passes ↦ inl passes
          | inr m ↦ inr (more m)
        ]
        go (suc n) before (d ∷ b) is (inr w) = inr (more (h.takes (taken n (delimited_at t.left) (rw is at w))))
