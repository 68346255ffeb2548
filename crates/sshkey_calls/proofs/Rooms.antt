-- Values that are slices, read from bytes.
use Rattle.std.proofs.Common.{◌≡◌, ◌≢◌, ◌<◌, List, ℕ, Result, Ok, Err, refl, arith, length, Bool, true, false, IfOk, sym, subst, ◌∙◌, ◌++◌, drop, inr}
use Rattle.sshkey_model.specs.Reading.{Fault, Front, whole}
use Rattle.sshkey_base.specs.Causes.{Cause, Faulty, NoMemory, Other}
use Rattle.sshkey_terms.specs.Slices.{Keeps}
use Rattle.std.specs.Prelude.{Vec}
use Rattle.sshkey_calls.specs.Rooms.{AnswersWith, Fills, GivesValue, IsLaidOut, TellsOf}
use Rattle.sshkey_calls.specs.Numbers.{fault_number}

module _ {X Y E : Type 0} (bytes_of : X → List ℕ) (cause : E → Cause) (b : List ℕ) (x : X) where
  -- it keeps them
  pub kept_bytes : (found : Result Y Fault) → Keeps bytes_of cause found b (Ok x) → bytes_of x ≡ b
  kept_bytes (Ok y) h = h
  kept_bytes (Err fault) h = absurd h

  -- and they have no fault
  pub no_fault : (found : Result Y Fault) (fault : Fault) → found ≡ Err fault → Keeps bytes_of cause found b (Ok x) → ⊥
  no_fault (Ok y) fault is h = cc is
  no_fault (Err other) fault is h = h

-- bytes are never refused for memory
pub not_memory : {X Y E : Type 0} (bytes_of : X → List ℕ) (cause : E → Cause) (b : List ℕ) (found : Result Y Fault) (e : E) → Keeps bytes_of cause found b (Err e) → cause e ≢ NoMemory
not_memory bytes_of cause b (Ok y) e h = absurd h
not_memory bytes_of cause b (Err fault) e h = λ memory. cc (memory, h)

-- so the number of their fault is not that of memory
pub never_memory : {X Y E : Type 0} (bytes_of : X → List ℕ) (cause : E → Cause) (b : List ℕ) (found : Result Y Fault) (e : E) (n : ℕ) → (cause e ≢ NoMemory → (9 < n) × (n < 30)) → Keeps bytes_of cause found b (Err e) → n ≢ 1
never_memory bytes_of cause b found e n range keeps one =
    let r = range (not_memory bytes_of cause b found e keeps) in
    omega (arith, one, r.0)

-- only memory that was refused has the number of memory
pub only_memory : (of_error : Cause) (n : ℕ) → (of_error ≢ NoMemory → (9 < n) × (n < 30)) → n ≡ 1 → of_error ≡ NoMemory
only_memory NoMemory n range one = refl
only_memory (Faulty fault) n range one =
    let r = range (λ e. cc e) in
    absurd (omega (arith, one, r.0))
only_memory Other n range one =
    let r = range (λ e. cc e) in
    absurd (omega (arith, one, r.0))

-- What is answered of a value whose bytes stand in the room, or do not.

module _ {X A : Type 0} {bytes : X → List ℕ} {ArePlaced : X → A → Type 0} {needed : A → ℕ} where
  -- The room was filled, or is too short.
  pub filled : (x : X) (content before after : List ℕ) (is_filled : Bool) (n : ℕ) (was answer : A) → IsLaidOut bytes ArePlaced x content answer → needed answer ≡ length (bytes x) → Fills content before is_filled after → (is_filled ≡ true → n ≡ 0) → (is_filled ≡ false → n ≡ 2) → GivesValue (λ y. y ≡ x) bytes ArePlaced needed n was answer before after
  filled x content before after true n was answer laid all fills done short = record {
    given = λ _. (x, refl, record { content = subst (λ (c : List ℕ). after ≡ c ++ drop (length c) before) laid.0 fills; placed = laid.1 });
    short = λ two. absurd (omega (arith, done refl, two));
    none = λ not_zero _ _ _ _. not_zero (done refl);
    stays = λ not_zero _. absurd (not_zero (done refl));
  }
  filled x content before after false n was answer laid all fills done short = record {
    given = λ zero_. absurd (omega (arith, short refl, zero_));
    short = λ _. (x, refl, record { needed = all; short = subst (λ (c : List ℕ). length before < length c) laid.0 fills.1; stays = fills.0 });
    none = λ _ _ not_two _ _. not_two (short refl);
    stays = λ _ not_two. absurd (not_two (short refl));
  }

  -- What is given is what is wanted.
  pub give_one : {Wanted : X → Type 0} (x : X) (n : ℕ) (was answer : A) (before after : List ℕ) → Wanted x → GivesValue (λ y. y ≡ x) bytes ArePlaced needed n was answer before after → GivesValue Wanted bytes ArePlaced needed n was answer before after
  give_one {Wanted} x n was answer before after wanted gives = record {
    given = λ zero_. let g = gives.given zero_ in (g.0, subst Wanted (sym g.1) wanted, g.2);
    short = λ two. let g = gives.short two in (g.0, subst Wanted (sym g.1) wanted, g.2);
    none = λ not_zero not_one not_two _ _. gives.none not_zero not_one not_two x refl;
    stays = gives.stays;
  }

  -- It is told in other words.
  pub told_as : {Is Other : X → Type 0} (n : ℕ) (was answer : A) (before after : List ℕ) → ((x : X) → Is x → Other x) → ((x : X) → Other x → Is x) → GivesValue Is bytes ArePlaced needed n was answer before after → GivesValue Other bytes ArePlaced needed n was answer before after
  told_as n was answer before after there back gives = record {
    given = λ zero_. let g = gives.given zero_ in (g.0, there g.0 g.1, g.2);
    short = λ two. let g = gives.short two in (g.0, there g.0 g.1, g.2);
    none = λ not_zero not_one not_two x is. gives.none not_zero not_one not_two x (back x is);
    stays = gives.stays;
  }

  -- There is none, or memory was out, and nothing changed.
  pub none_given : {Wanted : X → Type 0} (n : ℕ) (was answer : A) (before after : List ℕ) → (answer ≡ was) × (after ≡ before) → n ≢ 0 → n ≢ 2 → (n ≢ 1 → (x : X) → Wanted x → ⊥) → GivesValue Wanted bytes ArePlaced needed n was answer before after
  none_given n was answer before after same some apart none = record {
    given = λ zero_. absurd (some zero_);
    short = λ two. absurd (apart two);
    none = λ _ not_memory _. none not_memory;
    stays = λ _ _. same;
  }

  -- Nothing is said.
  pub no_memory : {Wanted : X → Type 0} (n : ℕ) (was answer : A) (before after : List ℕ) → (answer ≡ was) × (after ≡ before) → n ≡ 1 → GivesValue Wanted bytes ArePlaced needed n was answer before after
  no_memory n was answer before after same one = none_given n was answer before after same (λ zero_. omega (arith, one, zero_)) (λ two. omega (arith, one, two)) (λ not_one _ _. not_one one)

  -- It was laid out, and is answered with.
  pub answered : {Z E : Type 0} (x : X) (laid : Result (Vec ℕ Z × A) E) (n : ℕ) (was answer : A) (before after : List ℕ) → ((a : A) → ArePlaced x a → needed a ≡ length (bytes x)) → IfOk laid (λ it. IsLaidOut bytes ArePlaced x it.0.items it.1) → AnswersWith laid n was answer before after → GivesValue (λ y. y ≡ x) bytes ArePlaced needed n was answer before after
  answered x (Ok it) n was answer before after all is answers =
      subst (λ (a : A). GivesValue (λ y. y ≡ x) bytes ArePlaced needed n was a before after) (sym answers.0)
      (filled x it.0.items before after answers.1 n was it.1 is (all it.1 is.1) answers.2 (λ yes_. answers.3 ∙ rw yes_ refl) (λ no_. answers.3 ∙ rw no_ refl))
  answered x (Err e) n was answer before after all is answers = no_memory n was answer before after (answers.1, answers.2) answers.0

-- Bytes that spell no value.

module _ {X W E : Type 0} (bytes_of : X → List ℕ) (cause : E → Cause) (b : List ℕ) (e : E) (n : ℕ) (number : (fault : Fault) → cause e ≡ Faulty fault → n ≡ fault_number fault) where
  fault_of : (found : Result W Fault) → Keeps bytes_of cause found b (Err e) → (fault : Fault) × (found ≡ Err fault) × (n ≡ fault_number fault)
  fault_of (Ok y) keeps = absurd keeps
  fault_of (Err fault) keeps = (fault, refl, number fault keeps)

  -- the number of their fault is told
  pub refused : {V : Type 0} {Told : V → Type 0} {Stays : Type 0} (Spells : V → List ℕ → Type 0) (read : Front W) → Keeps bytes_of cause (whole read b) b (Err e) → Stays → TellsOf Spells read b Told n Stays
  refused Spells read keeps stays =
      let met = fault_of (whole read b) keeps in
      inr (met.0, met.1, met.2, stays)
