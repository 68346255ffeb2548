-- Parts of the caller's room.
use Rattle.std.specs.Prelude.{◌≡◌, ◌≢◌, ℕ, ◌<◌, ◌≤◌, ◌+◌, List, ◌++◌, length, take, drop, Bool, true, false, if◌then◌else◌, Result, Ok, Err, Vec, ◌⊎◌}
use Rattle.sshkey_calls.specs.declared.part.Part.{Part}
use Rattle.sshkey_model.specs.Reading.{Fault, Front, whole}
use Rattle.sshkey_calls.specs.Numbers.{fault_number}

-- the bytes of the part
abbrev pub bytes_of : Part → List ℕ → List ℕ
bytes_of part room = take part.length (drop part.start room)

-- it ends within the bytes
abbrev pub IsPartOf : Part → List ℕ → Type 0
IsPartOf part bytes = part.start + part.length ≤ length bytes

-- it begins there, and is as long as these bytes
abbrev pub IsPlaced : ℕ → List ℕ → Part → Type 0
IsPlaced start bytes part = (part.start ≡ start) × (part.length ≡ length bytes)

-- The content stands at the front of the room, and nothing else changed; or nothing did, for it is
-- longer than the room.
abbrev pub Fills : List ℕ → List ℕ → Bool → List ℕ → Type 0
Fills content before true after = after ≡ content ++ drop (length content) before
Fills content before false after = (after ≡ before) × (length before < length content)

-- The bytes stand at the front of the room, nothing else changed, and the answer says so.
pub record IsAtFront (bytes : List ℕ) (Placed : Type 0) (before after : List ℕ) : Type 0 where
  pub content : after ≡ bytes ++ drop (length bytes) before
  pub placed : Placed

-- The room is too short for the bytes, and stays as it was; `len` bytes are needed.
pub record LacksRoom (bytes : List ℕ) (len : ℕ) (before after : List ℕ) : Type 0 where
  pub needed : len ≡ length bytes
  pub short : length before < length bytes
  pub stays : after ≡ before

-- What a call answers that looks for the one value that `Wanted` tells: 0 with its bytes in the
-- room, where the answer says, 1 for memory, which says nothing, 2 where there is one, and the room
-- is too short for it; and every other number where there is none. But for 0 and 2, answer and room
-- stay as they were.
pub record GivesValue {X A : Type 0} (Wanted : X → Type 0) (bytes : X → List ℕ) (ArePlaced : X → A → Type 0) (needed : A → ℕ) (n : ℕ) (was answer : A) (before after : List ℕ) : Type 0 where
  pub given : n ≡ 0 → (x : X) × Wanted x × IsAtFront (bytes x) (ArePlaced x answer) before after
  pub short : n ≡ 2 → (x : X) × Wanted x × LacksRoom (bytes x) (needed answer) before after
  pub none : n ≢ 0 → n ≢ 1 → n ≢ 2 → (x : X) → Wanted x → ⊥
  pub stays : n ≢ 0 → n ≢ 2 → (answer ≡ was) × (after ≡ before)

-- ---- laid out, before it is written

-- These are the value's bytes, and that is where they will stand.
abbrev pub IsLaidOut : {X A : Type 0} → (X → List ℕ) → (X → A → Type 0) → X → List ℕ → A → Type 0
IsLaidOut bytes ArePlaced x content answer = (content ≡ bytes x) × ArePlaced x answer

-- The answer is what was laid out, and its bytes stand at the front of the room, with 0, or are too
-- many for it, with 2; or memory ran out, and nothing changed.
abbrev pub AnswersWith : {A Z E : Type 0} → Result (Vec ℕ Z × A) E → ℕ → A → A → List ℕ → List ℕ → Type 0
AnswersWith (Ok laid) n was answer before after = (answer ≡ laid.1) × (filled : Bool) × Fills laid.0.items before filled after × (n ≡ (if filled then 0 else 2))
AnswersWith (Err e) n was answer before after = (n ≡ 1) × (answer ≡ was) × (after ≡ before)

-- What is answered of bytes that are to spell a value.

-- This is told of the value that all the bytes spell; or they spell none: the number is that of
-- their first fault, and what the caller gave stays as it was.
abbrev pub TellsOf : {V W : Type 0} → (V → List ℕ → Type 0) → Front W → List ℕ → (V → Type 0) → ℕ → Type 0 → Type 0
TellsOf {V} Spells read bytes Told n Stays = ((v : V) × Spells v bytes × Told v) ⊎ ((fault : Fault) × (whole read bytes ≡ Err fault) × (n ≡ fault_number fault) × Stays)

-- Bytes that spell a value spell no other, and have no fault.
pub record HasOneOutcome {V W : Type 0} (Spells : V → List ℕ → Type 0) (read : Front W) : Type 0 where
  pub one : (v w : V) (bytes : List ℕ) → Spells v bytes → Spells w bytes → v ≡ w
  pub faultless : (v : V) (fault : Fault) (bytes : List ℕ) → Spells v bytes → whole read bytes ≢ Err fault
