-- What a reader says of a value.
use Rattle.std.specs.Prelude.{◌≡◌, Option, Some, None, ◌≢◌, ◌⊎◌, ℕ, List, [], ◌∷◌, ◌++◌, Result, Ok, Err, Vec, String, string_bytes}
use Rattle.sshkey_entries.specs.declared.reading.Reading.{Reading}
use Rattle.sshkey_entries.specs.declared.reading.Reading.TheVariants.{Is, Rejected, Unclear}
use Rattle.std.specs.List.{AllZip}
use Rattle.sshkey_base.specs.Causes.{cause, NoMemory}
use Rattle.sshkey_base.specs.declared.error.Error.{Error}
use Rattle.sshkey_entries.specs.Entries.{entries, uncommented, IsNoEntry}
use denote.Ref.{Bor}
use Rattle.sshkey_model.specs.Keys.{Key, normal_key}
use Rattle.sshkey_model.specs.Parts.{BoxesFit}
use Rattle.sshkey_base.specs.declared.encoding.Error.TheVariants.{Length}
use Rattle.sshkey_base.specs.declared.error.Error.TheVariants.{Encoding, Memory}

-- This value alone; or none, and that OpenSSH may read one (`May`) is not so, or is.
abbrev pub Tells : {X Y : Type 0} → (X → Y) → (Y → Type 0) → Type 0 → Reading X → Type 0
Tells {X} {Y} means Holds May (Is x) = Holds (means x) × ((y : Y) → Holds y → y ≡ means x) × (May → ⊥)
Tells {X} {Y} means Holds May Rejected = ((y : Y) → Holds y → ⊥) × (May → ⊥)
Tells {X} {Y} means Holds May Unclear = ((y : Y) → Holds y → ⊥) × May

-- It holds for this value alone; or for none.
abbrev pub IsTheOne : {X Y : Type 0} → (X → Y) → (Y → Type 0) → Option X → Type 0
IsTheOne {X} {Y} means Holds None = (y : Y) → Holds y → ⊥
IsTheOne {X} {Y} means Holds (Some x) = Holds (means x) × ((y : Y) → Holds y → y ≡ means x)

-- What a reader of entries answers.

-- Accepted is the value of the line. Refused for anything but memory, it has none.
abbrev pub ReadsEntry : {X Y : Type 0} → (X → Y) → (List ℕ → Y → Type 0) → List ℕ → Result X Error → Type 0
ReadsEntry means IsEntry line (Ok x) = IsEntry line (means x)
ReadsEntry means IsEntry line (Err e) = cause e ≢ NoMemory → IsNoEntry IsEntry line

-- Refused for anything but memory, the line has that fault.
abbrev pub RefusesFor : {X : Type 0} → (List ℕ → Error → Type 0) → List ℕ → Result X Error → Type 0
RefusesFor HasFault line (Ok x) = Unit {0}
RefusesFor HasFault line (Err e) = cause e ≢ NoMemory → HasFault line e

-- Memory was refused only where the line needs it.
abbrev pub AsksEntry : {X : Type 0} → (List ℕ → Type 0) → List ℕ → Result X Error → Type 0
AsksEntry Needs line (Ok x) = Unit {0}
AsksEntry Needs line (Err e) = cause e ≡ NoMemory → Needs line

-- All of them: the value of the line; or it has none, and that fault; and memory was refused only
-- where it was needed.
abbrev pub AnswersEntry : {X Y : Type 0} → (X → Y) → (List ℕ → Y → Type 0) → (List ℕ → Error → Type 0) → (List ℕ → Type 0) → List ℕ → Result X Error → Type 0
AnswersEntry means IsEntry HasFault Needs line r = ReadsEntry means IsEntry line r × RefusesFor HasFault line r × AsksEntry Needs line r

-- The line is its entry, and what follows it.
abbrev pub AreLineParts : List ℕ → Bor (List ℕ) × Bor (List ℕ) → Type 0
AreLineParts line parts = (parts.0.now ≡ uncommented line) × (line ≡ parts.0.now ++ parts.1.now)

-- One call of an iterator over entries, seen as the list of those that are left: `None` if none is
-- left, and else the first is taken off and answered.
abbrev pub YieldsAnswers : {X : Type 0} → (List ℕ → X → Type 0) → List (List ℕ) → Option X → List (List ℕ) → Type 0
YieldsAnswers Answers old None new = (old ≡ []) × (new ≡ [])
YieldsAnswers Answers old (Some answer) new = (entry : List ℕ) × (old ≡ entry ∷ new) × Answers entry answer

-- ---- all at once

-- the value of each entry, in order
abbrev pub AreEntries : {X Y : Type 0} → (X → Y) → (List ℕ → Y → Type 0) → List (List ℕ) → List X → Type 0
AreEntries means IsEntry = AllZip (λ entry x. IsEntry entry (means x))

-- One of them has no value but that fault, and each before it has a value.
pub record FirstIsNone {X Y : Type 0} (means : X → Y) (IsEntry : List ℕ → Y → Type 0) (HasFault : List ℕ → Error → Type 0) (all : List (List ℕ)) (e : Error) : Type 0 where
  pub before : List (List ℕ)
  pub entry : List ℕ
  pub after : List (List ℕ)
  pub is : all ≡ before ++ (entry ∷ after)
  pub values : List X
  pub read : AreEntries means IsEntry before values
  pub none : IsNoEntry IsEntry entry
  pub fault : HasFault entry e

-- Accepted are the values of all entries. Refused for anything but memory, the first entry that has
-- none has that fault.
abbrev pub ReadsEntries : {X Y Z : Type 0} → (X → Y) → (List ℕ → Y → Type 0) → (List ℕ → Error → Type 0) → List (List ℕ) → Result (Vec X Z) Error → Type 0
ReadsEntries means IsEntry HasFault all (Ok v) = AreEntries means IsEntry all v.items
ReadsEntries means IsEntry HasFault all (Err e) = cause e ≢ NoMemory → FirstIsNone means IsEntry HasFault all e

-- Accepted are the values of all entries of some text, which the file holds. Of a refusal nothing is
-- said.
abbrev pub ReadsFile : {X Y Z : Type 0} → (X → Y) → (List ℕ → Y → Type 0) → Result (Vec X Z) Error → Type 0
ReadsFile means IsEntry (Ok v) = (text : List ℕ) × AreEntries means IsEntry (entries text) v.items
ReadsFile means IsEntry (Err e) = Unit {0}

-- ---- memory

-- The first line has a value, which is kept, or needs memory itself. No other line counts: what
-- follows a line without a value is not read.
abbrev pub NeedsFirstLine : {Y : Type 0} → (List ℕ → Y → Type 0) → (List ℕ → Type 0) → List (List ℕ) → Type 0
NeedsFirstLine IsEntry Needs [] = ⊥
NeedsFirstLine {Y} IsEntry Needs (line ∷ lines) = ((y : Y) × IsEntry line y) ⊎ Needs line

-- Memory was refused only where it does.
abbrev pub AsksEntries : {X Y : Type 0} → (List ℕ → Y → Type 0) → (List ℕ → Type 0) → List (List ℕ) → Result X Error → Type 0
AsksEntries IsEntry Needs all (Ok x) = Unit {0}
AsksEntries IsEntry Needs all (Err e) = cause e ≡ NoMemory → NeedsFirstLine IsEntry Needs all

-- What is written of an entry.

-- The text, in which the key stands. `Length` exactly where a part of the key is too long, else
-- only out of memory.
abbrev pub MakesEntry : {Z : Type 0} → Key → List ℕ → Result (String Z) Error → Type 0
MakesEntry k text (Ok s) = BoxesFit (normal_key k) × (string_bytes s ≡ text)
MakesEntry k text (Err e) = ((BoxesFit (normal_key k) → ⊥) × (e ≡ Encoding Length)) ⊎ (BoxesFit (normal_key k) × (e ≡ Memory))
