-- What holds of all entries.
use Rattle.std.specs.Prelude.{◌≡◌, ◌≢◌, ◌++◌, ℕ, List, Option}
use Rattle.sshkey_model.specs.Keys.{Key, SpellsKey}
use Rattle.sshkey_model.specs.Parts.{flat}
use Rattle.sshkey_model.specs.Texts.{string}
use Rattle.sshkey_entries.specs.AuthorizedKeys.{AuthorizedKey, IsWithoutOptions, HasOptions}
use Rattle.sshkey_entries.specs.Entries.{IsNoEntry}
use Rattle.sshkey_entries.specs.KnownHosts.{Marker, Hosts}
use Rattle.sshkey_entries.specs.OpenSshLines.{IsHostLine, IsOtherHostLine}
use Rattle.sshkey_entries.specs.OptionItems.{KeyOption, AreKeyOptions}
use Rattle.sshkey_entries.specs.OtherKeys.{IsOtherName}
use Rattle.sshkey_entries.specs.Fields.{EndsOptions}

-- A line is one entry at most.
abbrev pub EntriesDetermineValues : {Y : Type 0} → (List ℕ → Y → Type 0) → Type 0
EntriesDetermineValues {Y} IsEntry = (entry : List ℕ) (a b : Y) → IsEntry entry a → IsEntry entry b → a ≡ b

-- No line is read with options and without.
abbrev pub ReadingsAreApart : Type 0
ReadingsAreApart = (entry : List ℕ) (a b : AuthorizedKey) → IsWithoutOptions entry a → HasOptions entry b → ⊥

-- The options of a line end at one place at most.
abbrev pub OneEnd : Type 0
OneEnd = (line : List ℕ) (p q : ℕ) → EndsOptions line p → EndsOptions line q → p ≡ q

-- A text is one list of options at most.
abbrev pub OneKeyOptions : Type 0
OneKeyOptions = (text : List ℕ) (a b : List KeyOption) → AreKeyOptions text a → AreKeyOptions text b → a ≡ b

-- No key begins with the name of a kind that is none here.
abbrev pub OtherNamesAreApart : Type 0
OtherNamesAreApart = (k : Key) (name blob rest : List ℕ) → IsOtherName name → SpellsKey k blob → blob ≢ flat (string name) ++ rest

-- A line with a key of such a kind is an entry of no key, so it revokes none.
abbrev pub OtherLinesAreNone : Type 0
OtherLinesAreNone = (line : List ℕ) (marker : Option Marker) (hosts : Hosts) → IsOtherHostLine line marker hosts → IsNoEntry IsHostLine line
