-- Values whose parts need no memory.
use Rattle.std.proofs.Common.{◌≡◌, inl, inr, ℕ, List, IsErrAnd, Result, Ok, Err}
use Rattle.std.specs.Prelude.{IsOkAnd}
use Rattle.sshkey_model.specs.Reading.{Fault, Front}
use Rattle.sshkey_base.specs.Causes.{Cause, NoMemory}
use Rattle.sshkey_model.specs.Needs.{NoNeed, NeedsThen}
use Rattle.sshkey_base.specs.Source.{Source, IsSound}
use Rattle.sshkey_base.specs.Stops.{Stopped, StopsBy}
use Rattle.sshkey_terms.proofs.Lawful.{IsMapped}
use Rattle.sshkey_terms.proofs.Stopping.{handed_stops, mapped_stopped}

-- neither of two values does
no_needs : {A Z : Type 0} (read : Front A) (s : Source) → NeedsThen NoNeed read (λ _. NoNeed) s.left s.missing → Z
no_needs {A} {Z} read s (inl n) = absurd n
no_needs {A} {Z} read s (inr n) = none (read s.left) n
  where
    none : (r : Result (A × List ℕ) Fault) → IsOkAnd r (λ _. ⊥) → Z
    none (Ok x) h = absurd h
    none (Err e) h = absurd h

pub needless_asks : {A : Type 0} (read : Front A) (s : Source) (c : Cause) → (c ≡ NoMemory → IsSound s → NeedsThen NoNeed read (λ _. NoNeed) s.left s.missing) → c ≡ NoMemory → IsSound s → NoNeed s.left s.missing
needless_asks read s c h memory sound = no_needs read s (h memory sound)

needless : {A Y : Type 0} (first : Front A) (read : Front Y) (overruns : List ℕ → ℕ → Type 0) (c : Cause) (s : Source) → Stopped c read (NeedsThen NoNeed first (λ _. NoNeed)) overruns s → Stopped c read NoNeed overruns s
needless first read overruns c s h = record {
  takes = λ ok. no_needs first s (h.takes ok).needed;
  past = λ o. elim (h.past o) [
    | inl is ↦ inl is
    | inr ran ↦ no_needs first s ran.needed
  ];
}

pub needless_stops : {A Y W E : Type 0} (first : Front A) (read : Front Y) (overruns : List ℕ → ℕ → Type 0) (why : E → Cause) (s : Source) (r : Result W E) → StopsBy why read (NeedsThen NoNeed first (λ _. NoNeed)) overruns s r → StopsBy why read NoNeed overruns s r
needless_stops first read overruns why s (Ok w) h = tt
needless_stops first read overruns why s (Err e) h = needless first read overruns (why e) s h

-- what `?` hands on of a record that is read as a term
pub needless_handed : {A Y Z W E : Type 0} (first : Front A) (read : Front Y) (overruns : List ℕ → ℕ → Type 0) (s : Source) (form : Y → Result Z Fault) (record_at : Front Z) (why : E → Cause) (r : Result W E) (e : E) → IsErrAnd r (λ x. x ≡ e) → IsMapped record_at form read → Stopped (why e) read (NeedsThen NoNeed first (λ _. NoNeed)) overruns s → StopsBy why record_at NoNeed overruns s r
needless_handed first read overruns s form record_at why r e is m h = handed_stops record_at NoNeed overruns s why r e is (needless first record_at overruns (why e) s (mapped_stopped read (NeedsThen NoNeed first (λ _. NoNeed)) overruns (why e) s form record_at m h))

pub ruleset needless_parts = (needless_asks, needless_stops, needless_handed)
