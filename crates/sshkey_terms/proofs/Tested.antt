-- Parts that were read, and then the test of them.
use Rattle.std.proofs.Common.{◌≡◌, ℕ, List, Result, Err, refl, sym}
use Rattle.sshkey_model.specs.Reading.{Fault, Front, checked_at}
use Rattle.sshkey_base.specs.Answers.{AnswersAlways}
use Rattle.sshkey_base.specs.Causes.{Cause, Faulty}
use Rattle.sshkey_base.specs.Reading.{Reads, IsRefused}
use Rattle.sshkey_base.specs.Source.{Source}
use Rattle.sshkey_base.specs.Stops.{Stopped, StopsBy}
use Rattle.sshkey_model.specs.Overruns.{AreLengths}
use Rattle.sshkey_base.proofs.Stopping.{not_taken, read_past, judged_stops, same_stops}
use Rattle.sshkey_terms.proofs.Lawful.{IsMapped}

-- the test refuses
pub tested_refused : {X Y Z : Type 0} (parts : X → Y) (read : Front Y) (s t : Source) (x : X) (form : Y → Result Z Fault) (record_at : Front Z) (c : Cause) (f : Fault) → Reads parts read s x t → IsMapped record_at form read → form (parts x) ≡ Err f → c ≡ Faulty f → IsRefused s.missing c (record_at s.left)
tested_refused parts read s t x form record_at c f h same refused is = record { fault = λ other sound. rw (same.same s.left, h.value, refused) is }

pub tested_stopped : {X Y Z : Type 0} (parts : X → Y) (read : Front Y) (needs overruns : List ℕ → ℕ → Type 0) (s t : Source) (x : X) (form : Y → Result Z Fault) (record_at : Front Z) (c : Cause) (f : Fault) → Reads parts read s x t → IsMapped record_at form read → form (parts x) ≡ Err f → AreLengths read overruns → Stopped c record_at needs overruns s
tested_stopped parts read needs overruns s t x form record_at c f h same refused lengths = record {
  takes = λ ok. not_taken (record_at s.left) f (rw (same.same s.left, h.value, refused) refl) ok;
  past = λ o. read_past parts read overruns s t x lengths h o;
}

-- the test is a call of its own
pub tested_stops : {X Y Z W E : Type 0} (parts : X → Y) (means : W → Z) (why : E → Cause) (read : Front Y) (form : Y → Result Z Fault) (record_at : Front Z) (needs overruns : List ℕ → ℕ → Type 0) (s t : Source) (x : X) (r : Result W E) → IsMapped record_at form read → AreLengths read overruns → Reads parts read s x t → AnswersAlways means why (form (parts x)) r → StopsBy why record_at needs overruns s r
tested_stops parts means why read form record_at needs overruns s t x r m lengths h answer = same_stops why (checked_at form read) record_at needs overruns s r (λ b. sym (m.same b)) (judged_stops parts means why read form needs overruns s t x r lengths h answer)

pub ruleset tested = (tested_refused, tested_stopped)
