-- Where the first item of options ends.
use Rattle.std.specs.Prelude.{◌≡◌, ◌<◌, ℕ, List, length, true, false, Option, Some, None, EachIndex, slice_index, ◌⊎◌, Result, Ok, Err, ◌+◌, [], ◌∷◌, ◌++◌, Bool, ◌&&◌, ◌==◌, option_map}
use Rattle.sshkey_entries.specs.Items.{is_divider, is_quote}
use Rattle.sshkey_base.specs.declared.encoding.Error.TheVariants.{CharacterEncoding}
use Rattle.sshkey_base.specs.declared.error.Error.{Error}
use Rattle.sshkey_base.specs.declared.error.Error.TheVariants.{Encoding, Memory, FormatEncoding}
use Rattle.sshkey_entries.specs.AuthorizedKeys.{AreOptionCharacters}
use Rattle.sshkey_entries.specs.OptionItems.{quote, backslash, AreNameCharacters, is_name_character, IsQuoted, IsValueAt, EndsOption, unescaped, KeyOption, AreKeyOptions, HasKeyOptions, IsSameName, IsOptionAt, IsNoOption, without_commas}
use denote.Ref.{Bor}
use Rattle.std.specs.List.{All}
use Rattle.sshkey_authorized_keys.specs.declared.openssh_option.OpenSshOption.{OpenSshOption}

-- the first place of a divider, if there is one
abbrev pub FindsDivider : List ℕ → Option ℕ → Type 0
FindsDivider text None = EachIndex text (λ k. is_divider text (k, slice_index text k) ≡ false)
FindsDivider text (Some i) = (i < length text) × (is_divider text (i, slice_index text i) ≡ true) × ((k : ℕ) → k < i → is_divider text (k, slice_index text k) ≡ false)

-- How options are judged.

-- a character is not allowed
abbrev pub IsNotAllowed : List ℕ → Error → Type 0
IsNotAllowed text e = (e ≡ Encoding CharacterEncoding) × (AreOptionCharacters text → ⊥)

-- Accepted, all characters are allowed, and the value is seen as `seen`. Refused exactly where one
-- is not.
abbrev pub JudgesOptions : {X Y : Type 0} → (X → Y) → List ℕ → Y → Result X Error → Type 0
JudgesOptions means text seen (Ok x) = AreOptionCharacters text × (means x ≡ seen)
JudgesOptions means text seen (Err e) = IsNotAllowed text e

-- The same; or they are allowed, and memory ran out.
abbrev pub JudgesInMemory : {X Y : Type 0} → (X → Y) → List ℕ → Y → Result X Error → Type 0
JudgesInMemory means text seen (Ok x) = AreOptionCharacters text × (means x ≡ seen)
JudgesInMemory means text seen (Err e) = (AreOptionCharacters text × (e ≡ Memory)) ⊎ IsNotAllowed text e

-- Where the parts of options are cut.

-- The text is a name, which may be empty, and what follows it.
pub record CutsName (text name rest : List ℕ) : Type 0 where
  pub is : text ≡ name ++ rest
  pub characters : AreNameCharacters name
  pub ends : (rest ≡ []) ⊎ (is_name_character (slice_index rest 0) ≡ false)

-- the first place with that, if there is one
abbrev pub FindsPlace : (List ℕ → ℕ → Bool) → List ℕ → Option ℕ → Type 0
FindsPlace has text None = (k : ℕ) → k < length text → has text k ≡ false
FindsPlace has text (Some i) = (i < length text) × (has text i ≡ true) × ((k : ℕ) → k < i → has text k ≡ false)

-- a backslash before a quote
abbrev pub is_escape : List ℕ → ℕ → Bool
is_escape text i = slice_index text i == backslash && is_quote (slice_index text (i + 1))

-- The quoted text, and what follows its quote; or there is none.
abbrev pub CutsQuoted : List ℕ → Option (Bor (List ℕ) × Bor (List ℕ)) → Type 0
CutsQuoted text None = (quoted rest : List ℕ) → text ≡ quoted ++ (quote ∷ rest) → IsQuoted quoted → ⊥
CutsQuoted text (Some x) = (text ≡ x.0.now ++ (quote ∷ x.1.now)) × IsQuoted x.0.now

-- what a quoted text means
abbrev pub value_in : Option (Bor (List ℕ)) → Option (List ℕ)
value_in quoted = option_map (λ text. unescaped text.now) quoted

-- The value, if any, and what follows it, and nothing else follows a value; or a value has no end.
abbrev pub CutsValue : List ℕ → Option (Option (Bor (List ℕ)) × Bor (List ℕ)) → Type 0
CutsValue text None = (value : Option (List ℕ)) (rest : List ℕ) → IsValueAt text value rest → EndsOption rest → ⊥
CutsValue text (Some x) = IsValueAt text (value_in x.0) x.1.now × ((value : Option (List ℕ)) (rest : List ℕ) → IsValueAt text value rest → EndsOption rest → rest ≡ x.1.now)

-- What options mean that are read one by one, and what is found among them.

abbrev pub key_option_of : OpenSshOption → KeyOption
key_option_of o = record { name = o.name.now; value = value_in o.quoted }

-- The option at the front, and what follows it; or there is none.
abbrev pub CutsOption : List ℕ → Option (OpenSshOption × Bor (List ℕ)) → Type 0
CutsOption text None = IsNoOption text
CutsOption text (Some x) = IsOptionAt text (key_option_of x.0) x.1.now

-- One call of an iterator over options, which is seen as the text that is left: `None` where
-- nothing but commas is left, and else the first option is taken off; or no option stands there,
-- `FormatEncoding`, and nothing is left.
abbrev pub YieldsOption : List ℕ → Option (Result OpenSshOption Error) → List ℕ → Type 0
YieldsOption old None new = (without_commas old ≡ []) × (new ≡ [])
YieldsOption old (Some (Ok o)) new = IsOptionAt (without_commas old) (key_option_of o) new
YieldsOption old (Some (Err e)) new = (e ≡ FormatEncoding) × (0 < length (without_commas old)) × IsNoOption (without_commas old) × (new ≡ [])

-- ---- by name

abbrev pub HasOtherName : List ℕ → KeyOption → Type 0
HasOtherName name o = IsSameName o.name name → ⊥

-- The option has that name, and each before it another.
pub record IsFirstNamed (name : List ℕ) (options : List KeyOption) (o : KeyOption) : Type 0 where
  pub before : List KeyOption
  pub after : List KeyOption
  pub is : options ≡ before ++ (o ∷ after)
  pub named : IsSameName o.name name
  pub others : All (HasOtherName name) before

-- The first of that name; or none has it.
abbrev pub FindsNamed : List ℕ → List KeyOption → Option OpenSshOption → Type 0
FindsNamed name options None = All (HasOtherName name) options
FindsNamed name options (Some o) = IsFirstNamed name options (key_option_of o)

-- What was found among some options, this one and what is found among all of them.
abbrev pub FindsAlso : List ℕ → Option OpenSshOption → OpenSshOption → Option OpenSshOption → Type 0
FindsAlso name found o result = (options : List KeyOption) → FindsNamed name options found → FindsNamed name (options ++ (key_option_of o ∷ [])) result

-- The first of that name among the options that are the text; or the text is no options,
-- `FormatEncoding`.
abbrev pub FindsIn : List ℕ → List ℕ → Result (Option OpenSshOption) Error → Type 0
FindsIn text name (Ok found) = (options : List KeyOption) × AreKeyOptions text options × FindsNamed name options found
FindsIn text name (Err e) = (e ≡ FormatEncoding) × (HasKeyOptions text → ⊥)
