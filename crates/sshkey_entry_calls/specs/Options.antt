-- What is answered of the options of an entry.
use Rattle.std.specs.Prelude.{◌≡◌, ◌≢◌, ◌↔◌, ◌≤◌, ◌<◌, ℕ, List, [], ◌++◌, length, drop, take, slice_index, true, false, Option, Some, None}
use Rattle.std.specs.Str.{IsUtf8}
use Rattle.sshkey_authorized_keys.specs.Options.{key_option_of}
use Rattle.sshkey_authorized_keys.specs.declared.openssh_option.OpenSshOption.{OpenSshOption}
use Rattle.sshkey_entries.specs.Items.{is_comma}
use Rattle.sshkey_entries.specs.Fields.{is_inside}
use Rattle.sshkey_entries.specs.OptionItems.{IsNoOption, IsOptionAt, KeyOption, without_commas}
use Rattle.sshkey_calls.specs.Rooms.{GivesValue, IsAtFront, IsPlaced, LacksRoom}
use Rattle.sshkey_entry_calls.specs.declared.options.OptionParts.{OptionParts}

-- ---- where an option ends

-- The first comma that is not inside quotes; or there is none, and it is the end of the text.
pub record EndsAt (text : List ℕ) (place : ℕ) : Type 0 where
  pub within : place ≤ length text
  pub ends : place < length text → (is_comma (slice_index text place) ≡ true) × (is_inside text place ≡ false)
  pub first : (i : ℕ) → i < place → is_comma (slice_index text i) ≡ true → is_inside text i ≡ true

-- ---- in the room

abbrev pub value_bytes : Option (List ℕ) → List ℕ
value_bytes None = []
value_bytes (Some value) = value

abbrev pub value_number : Option (List ℕ) → ℕ
value_number None = 0
value_number (Some value) = 1

-- the name, and after it the value
abbrev pub option_bytes : KeyOption → List ℕ
option_bytes o = o.name ++ value_bytes o.value

-- The answer says where each of them is, how many bytes they take, that the next option is at that
-- place, and whether there is a value.
pub record ArePlaced (place : ℕ) (o : KeyOption) (answer : OptionParts) : Type 0 where
  pub name : IsPlaced 0 o.name answer.name
  pub value : IsPlaced (length o.name) (value_bytes o.value) answer.value
  pub length : answer.length ≡ length (option_bytes o)
  pub next : answer.next ≡ place
  pub has_value : answer.has_value ≡ value_number o.value

-- What a call answers that looks for the one option that `Wanted` tells.
abbrev pub GivesOption : (KeyOption → Type 0) → ℕ → ℕ → OptionParts → OptionParts → List ℕ → List ℕ → Type 0
GivesOption Wanted place = GivesValue Wanted option_bytes (ArePlaced place) (λ (a : OptionParts). a.length)

-- ---- what stands at the front, and at a place

-- The text begins with the option, after commas.
abbrev pub BeginsWith : List ℕ → KeyOption → Type 0
BeginsWith text o = (rest : List ℕ) × IsOptionAt (without_commas text) o rest

-- The first one; or no option is there.
abbrev pub FindsFirst : List ℕ → Option OpenSshOption → Type 0
FindsFirst text (Some o) = BeginsWith text (key_option_of o)
FindsFirst text None = IsNoOption (without_commas text)

-- The option that the text begins with, and the place of the next one, which is known; or there is
-- none, and it is 15. With 1 there is one.
pub record TellsOption (text : List ℕ) (next n : ℕ) (was answer : OptionParts) (before after : List ℕ) : Type 0 where
  pub gives : GivesOption (BeginsWith text) next n was answer before after
  pub memory : n ≡ 1 → (o : KeyOption) × BeginsWith text o
  pub others : n ≢ 0 → n ≢ 1 → n ≢ 2 → n ≡ 15

-- The bytes up to where the option at their front ends are not UTF-8.
abbrev pub IsNoText : List ℕ → Type 0
IsNoText left = (end : ℕ) × EndsAt left end × (IsUtf8 (take end left) → ⊥)

-- 0 and the option that begins at the place, after commas, and where the next one begins; 2 where
-- there is one, and the room is too short for it; 3 exactly where nothing but commas is left; 4
-- exactly where what stands there is not UTF-8; 15 where it is no option; and 1 is memory, and only
-- where there is one. But for 0 and 2, answer and room stay as they were.
pub record FindsKeyOption (options : List ℕ) (place n : ℕ) (was answer : OptionParts) (before after : List ℕ) : Type 0 where
  pub found : n ≡ 0 → (o : KeyOption) × IsOptionAt (without_commas (drop place options)) o (drop answer.next options) × IsAtFront (option_bytes o) (ArePlaced answer.next o answer) before after
  pub later : n ≡ 0 → (place < answer.next) × (answer.next ≤ length options)
  pub short : n ≡ 2 → (o : KeyOption) × BeginsWith (drop place options) o × LacksRoom (option_bytes o) answer.length before after
  pub memory : n ≡ 1 → (o : KeyOption) × BeginsWith (drop place options) o
  pub last : (n ≡ 3) ↔ (without_commas (drop place options) ≡ [])
  pub text : (n ≡ 4) ↔ IsNoText (without_commas (drop place options))
  pub none : n ≡ 15 → IsNoOption (without_commas (drop place options))
  pub others : n ≢ 0 → n ≢ 1 → n ≢ 2 → n ≢ 3 → n ≢ 4 → n ≡ 15
  pub stays : n ≢ 0 → n ≢ 2 → (answer ≡ was) × (after ≡ before)
