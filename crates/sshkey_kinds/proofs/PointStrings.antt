-- A point string that is judged after its length.
use Rattle.std.proofs.Common.{◌≡◌, ℕ, ◌<◌, List, Result, Ok, Err, refl, ◌∙◌}
use Rattle.std.specs.Int.{w32}
use Rattle.sshkey_model.specs.Reading.{Fault, Length, Whole, number_at, bytes_at, string_at, checked_at}
use Rattle.sshkey_base.specs.declared.error.Error.{Error}
use Rattle.sshkey_base.specs.Answers.{AnswersAlways}
use Rattle.sshkey_base.specs.Causes.{Cause, Faulty, cause}
use Rattle.sshkey_base.specs.Labels.{NeedsAfter}
use Rattle.sshkey_model.specs.Needs.{NoNeed}
use Rattle.sshkey_base.specs.Source.{Source, announced_len}
use Rattle.sshkey_base.specs.Stops.{Stopped}
use Rattle.sshkey_model.specs.Overruns.{OverrunsBytes, OverrunsString}
use Rattle.sshkey_model.specs.ShortStrings.{at_most}
use Rattle.sshkey_base.specs.Reading.{Reads, Refuses, GivesAlways}
use Rattle.sshkey_base.proofs.ShortStrings.{bounded}
use Rattle.sshkey_base.proofs.Steps.{refuses_first}
use Rattle.sshkey_base.proofs.Stopping.{refused_stopped, after_judged_stopped}
use Rattle.sshkey_kinds.specs.PointStrings.{bounded_from}

module _ {C : Type 0} (max n : ℕ) (judge : Whole C) (s : Source) where
  pub judged_short : {A X : Type 0} (first : A → List ℕ) (means : X → C) (t : Source) (x : A) (r : Result X Error) → Reads first (checked_at (at_most max) (bytes_at n)) s x t → AnswersAlways means cause (judge (first x)) r → GivesAlways means cause (checked_at (bounded_from max judge) (bytes_at n)) s r t
  judged_short {A} {X} first means t x r h answer = go (judge (first x)) r refl answer
    where
      go : (found : Result C Fault) (r : Result X Error) → judge (first x) ≡ found → AnswersAlways means cause found r → GivesAlways means cause (checked_at (bounded_from max judge) (bytes_at n)) s r t
      go (Ok c) (Ok y) e a = record { value = bounded max judge (bytes_at n) s.left ∙ rw (h.value, e, a) refl; missing = h.missing; outer = h.outer }
      go (Ok c) (Err d) e a = absurd a
      go (Err f) (Ok y) e a = absurd a
      go (Err f) (Err d) e a = record { met = f; is = bounded max judge (bytes_at n) s.left ∙ rw (h.value, e) refl; same = λ _. a }

  pub refused_short : (c : Cause) → Refuses s.missing c (checked_at (at_most max) (bytes_at n) s.left) → Refuses s.missing c (checked_at (bounded_from max judge) (bytes_at n) s.left)
  refused_short c h = rw (bounded max judge (bytes_at n) s.left) (refuses_first _ _ _ _ h)

-- ---- the length before it

-- its bytes are refused: so `Length` where it passes
pub after_refused_stopped : {B : Type 0} (c : Cause) (n : ℕ) (s t : Source) (judge : Whole B) → Reads (λ k. k) (number_at w32) s n t → Refuses t.missing c (checked_at judge (bytes_at n) t.left) → (announced_len t < n → c ≡ Faulty Length) → Stopped c (checked_at judge string_at) NoNeed OverrunsString s
after_refused_stopped c n s t judge h refused past = after_judged_stopped c n s t h judge NoNeed (refused_stopped c (checked_at judge (bytes_at n)) (NeedsAfter NoNeed n) (OverrunsBytes n) t refused past)
