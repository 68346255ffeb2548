-- A value that is read and then judged.
use Rattle.std.proofs.Common.{◌≡◌, ◌≢◌, ℕ, List, Result, Ok, Err, refl, ◌∙◌}
use Rattle.sshkey_model.specs.Reading.{Fault, ◌>>=◌, Front, checked_at}
use Rattle.sshkey_base.specs.Answers.{AnswersAlways}
use Rattle.sshkey_base.specs.Causes.{Cause, NoMemory, Faulty, Other}
use Rattle.sshkey_base.specs.Source.{Source}
use Rattle.sshkey_base.specs.Needs.{Asks}
use Rattle.sshkey_base.specs.Reading.{Reads, Gives, GivesAlways}
use Rattle.sshkey_base.proofs.Steps.{gives_sound}

pub judged_always : {A B C X E : Type 0} (first : A → B) (means : X → C) (cause : E → Cause) (read : Front B) (judge : B → Result C Fault) (s t : Source) (x : A) (r : Result X E) → Reads first read s x t → AnswersAlways means cause (judge (first x)) r → GivesAlways means cause (checked_at judge read) s r t
judged_always {A} {B} {C} {X} {E} first means cause read judge s t x r h answer = go (judge (first x)) r refl answer
  where
    go : (found : Result C Fault) (r : Result X E) → judge (first x) ≡ found → AnswersAlways means cause found r → GivesAlways means cause (checked_at judge read) s r t
    go (Ok c) (Ok y) e a = record { value = rw (h.value, e, a) refl; missing = h.missing; outer = h.outer }
    go (Ok c) (Err d) e a = absurd a
    go (Err f) (Ok y) e a = absurd a
    go (Err f) (Err d) e a = record { met = f; is = rw (h.value, e) refl; same = λ _. a }

pub judged : {A B C X E : Type 0} (first : A → B) (means : X → C) (cause : E → Cause) (read : Front B) (judge : B → Result C Fault) (s t : Source) (x : A) (r : Result X E) → Reads first read s x t → AnswersAlways means cause (judge (first x)) r → Gives means cause (checked_at judge read) s r t
judged first means cause read judge s t x r h answer = gives_sound _ _ _ _ _ r (judged_always first means cause read judge s t x r h answer)

-- what refuses what is taken is that memory was out
pub only_memory : (c : Cause) → (c ≢ NoMemory → ⊥) → c ≡ NoMemory
only_memory NoMemory h = refl
only_memory (Faulty f) h = absurd (h (λ e. cc e))
only_memory Other h = absurd (h (λ e. cc e))

-- a judgement asks for no memory
pub judged_asks : {A B C X E : Type 0} (first : A → B) (means : X → C) (cause : E → Cause) (needs : List ℕ → ℕ → Type 0) (read : Front B) (found : Result C Fault) (s t : Source) (x : A) (r : Result X E) → Reads first read s x t → AnswersAlways means cause found r → Asks cause needs s r
judged_asks first means cause needs read found s t x (Ok y) h a = tt
judged_asks first means cause needs read (Ok c) s t x (Err d) h a = absurd a
judged_asks first means cause needs read (Err f) s t x (Err d) h a = λ memory sound. absurd cc

-- ---- one judgement after another

-- the first refuses, and its error is handed on
pub answers_first : {A B C D E X : Type 0} (first : X → A) (narrow : D → Cause) (means : C → B) (cause : E → Cause) (found : Result A Fault) (next : A → Result B Fault) (d : D) (e : E) → AnswersAlways first narrow found (Err d) → cause e ≡ narrow d → AnswersAlways means cause (found >>= next) (Err e)
answers_first first narrow means cause (Ok a) next d e h same = absurd h
answers_first first narrow means cause (Err f) next d e h same = same ∙ h

-- the first is done, and the next decides
pub answers_later : {A B C D E X : Type 0} (first : X → A) (narrow : D → Cause) (means : C → B) (cause : E → Cause) (found : Result A Fault) (next : A → Result B Fault) (x : X) (r : Result C E) → AnswersAlways first narrow found (Ok x) → AnswersAlways means cause (next (first x)) r → AnswersAlways means cause (found >>= next) r
answers_later first narrow means cause (Ok a) next x r h g = rw h at g
answers_later first narrow means cause (Err f) next x r h g = absurd h
