-- Where OpenSSH ends the options of a line of authorized_keys (sshd(8): no spaces are permitted in
-- options, except within double quotes; a double quote in a quoted string follows a backslash).
use Rattle.std.specs.Prelude.{◌≡◌, ℕ, ◌-◌, ◌<◌, List, length, count_by, slice_index, nat_lt, Bool, true, false, not, ◌&&◌, ◌||◌, ◌==◌, [], ◌∷◌, if◌then◌else◌, ◌⊎◌, ◌++◌, take, EachIndex, map, filter, ◌≢◌, Result, Ok, Err}
use Rattle.std.specs.List.{range_with_len, suffix_len}
use Rattle.sshkey_model.specs.Lines.{space, key_name}
use Rattle.sshkey_entries.specs.Items.{is_quote, is_odd}
use Rattle.std.specs.Str.Lines.{lines}
use Rattle.base64.specs.Engines.{standard}
use Rattle.base64.specs.GeneralPurpose.{encode_of}
use Rattle.sshkey_model.specs.Keys.{Key, SpellsKey, key_format}
use Rattle.sshkey_entries.specs.Entries.{is_hash, is_some_text}
use Rattle.std.specs.Str.{IsUtf8}
use Rattle.sshkey_base.specs.Causes.{cause, NoMemory}
use Rattle.sshkey_base.specs.declared.encoding.Error.TheVariants.{Length}
use Rattle.sshkey_base.specs.declared.error.Error.{Error}
use Rattle.sshkey_base.specs.declared.error.Error.TheVariants.{AlgorithmUnknown, Encoding}
use Rattle.sshkey_public.specs.Lines.{HasFaultOfWord, NeedsWord, IsNoWord, IsWordOf}
use Rattle.sshkey_public.specs.PublicKeys.{public_of, comment_of}
use Rattle.sshkey_public.specs.declared.public_key.PublicKey.{PublicKey}

-- a space or a tab
abbrev pub is_blank : ℕ → Bool
is_blank c = c == space || c == 0x09

-- a quote at the place, with no backslash before it
abbrev pub is_plain_quote : List ℕ → ℕ → Bool
is_plain_quote line place = is_quote (slice_index line place) && not (nat_lt 0 place && slice_index line (place - 1) == 0x5c)

-- an odd number of them stands before the place
unfoldable pub is_inside : List ℕ → ℕ → Bool
is_inside line place = is_odd (count_by (is_plain_quote line) (range_with_len 0 place))

-- the first blank that is not inside quotes
pub record EndsOptions (line : List ℕ) (place : ℕ) : Type 0 where
  pub within : place < length line
  pub blank : is_blank (slice_index line place) ≡ true
  pub outside : is_inside line place ≡ false
  pub first : (i : ℕ) → i < place → is_blank (slice_index line i) ≡ true → is_inside line i ≡ true

-- What stands at the front of a text.

-- the text without the characters at its front that pass the test
unfoldable pub without_front : (ℕ → Bool) → List ℕ → List ℕ
without_front is [] = []
without_front is (c ∷ text) = if is c then without_front is text else c ∷ text

-- Fields of a line, and a key in them: spaces or tabs stand between (sshd(8), "AUTHORIZED_KEYS FILE
-- FORMAT" and "SSH_KNOWN_HOSTS FILE FORMAT").

-- the text without the spaces and tabs at its front
abbrev pub without_blanks : List ℕ → List ℕ
without_blanks = without_front is_blank

-- No space and no tab stands in it.
abbrev pub IsField : List ℕ → Type 0
IsField text = EachIndex text (λ i. is_blank (slice_index text i) ≡ false)

-- A field ends here: nothing follows, or a space or tab.
abbrev pub EndsField : List ℕ → Type 0
EndsField text = (text ≡ []) ⊎ (is_blank (slice_index text 0) ≡ true)

-- a vertical tab, a form feed or a carriage return: white space that ends no field, and that OpenSSH
-- passes over in Base64 (`isspace` in its b64_pton)
abbrev pub is_white : ℕ → Bool
is_white c = c == 0x0b || c == 0x0c || c == 0x0d

-- the field without such white space at its end
abbrev pub without_white : List ℕ → List ℕ
without_white field = take (length field - suffix_len is_white field) field

-- The text is a field, which is the word and white space behind it, and what follows the field.
pub record CutsWord (text word rest : List ℕ) : Type 0 where
  pub field : List ℕ
  pub is : text ≡ field ++ rest
  pub one_word : IsField field
  pub ends : EndsField rest
  pub word_is : word ≡ without_white field

-- The text is the name of the key's algorithm, the key in Base64, white space that may stand behind
-- that, and a comment, which is all that follows.
pub record AreKeyFields (text : List ℕ) (k : Key) (comment : List ℕ) : Type 0 where
  pub blob : List ℕ
  pub after_name : List ℕ
  pub after_key : List ℕ
  pub is : text ≡ key_name k ++ after_name
  pub one_word : IsField (key_name k)
  pub name_ends : EndsField after_name
  pub word : CutsWord (without_blanks after_name) (encode_of standard blob) after_key
  pub spelled : SpellsKey k blob
  pub comment_is : comment ≡ without_blanks after_key

-- No key's fields stand at the front.
abbrev pub AreNoKeyFields : List ℕ → Type 0
AreNoKeyFields text = (k : Key) (comment : List ℕ) → AreKeyFields text k comment → ⊥

-- ---- the lines of a file

-- some text that no `#` begins
abbrev pub is_filled : List ℕ → Bool
is_filled text = is_some_text text && not (is_hash (slice_index text 0))

-- the lines without the blanks at their front, but for those that are empty then, and comments
abbrev pub filled_lines : List ℕ → List (List ℕ)
filled_lines text = filter is_filled (map without_blanks (lines text))

-- How a field is cut off.

-- The text is a field and what follows it.
pub record CutsField (text field rest : List ℕ) : Type 0 where
  pub is : text ≡ field ++ rest
  pub one_word : IsField field
  pub ends : EndsField rest

-- What a reader of a key's fields says of the text.

-- Accepted is the key and the comment of the fields. Refused for anything but memory, they are
-- those of no key.
abbrev pub ReadsKeyFields : List ℕ → Result PublicKey Error → Type 0
ReadsKeyFields text (Ok k) = AreKeyFields text (public_of k) (comment_of k)
ReadsKeyFields text (Err e) = cause e ≢ NoMemory → AreNoKeyFields text

-- the comment, or an empty one in place of one that is no UTF-8
abbrev pub IsKept : List ℕ → List ℕ → Type 0
IsKept comment kept = (IsUtf8 comment → kept ≡ comment) × (¬ IsUtf8 comment → kept ≡ [])

-- The same of any bytes.
abbrev pub ReadsKeyBytes : List ℕ → Result PublicKey Error → Type 0
ReadsKeyBytes fields (Ok k) = (comment : List ℕ) × AreKeyFields fields (public_of k) comment × IsKept comment (comment_of k)
ReadsKeyBytes fields (Err e) = cause e ≢ NoMemory → AreNoKeyFields fields

-- The text is a name, a word with white space that may stand behind it, and what follows, with blanks
-- between.
pub record AreFields (text name word rest : List ℕ) : Type 0 where
  pub after : List ℕ
  pub first : CutsField text name after
  pub second : CutsWord (without_blanks after) word rest

-- `Length` where the Base64 is missing, the fault of a word that spells no key, and
-- `AlgorithmUnknown` where it spells a key of another name.
pub record HasKeyFault (text : List ℕ) (e : Error) : Type 0 where
  pub no_word : (name rest : List ℕ) → AreFields text name [] rest → e ≡ Encoding Length
  pub bad_word : (name word rest : List ℕ) → AreFields text name word rest → 0 < length word → IsNoWord SpellsKey word → HasFaultOfWord key_format word e
  pub other_name : (name word rest : List ℕ) (k : Key) → AreFields text name word rest → IsWordOf SpellsKey word k → name ≢ key_name k → e ≡ AlgorithmUnknown

-- ---- memory

-- The bytes of the word need memory.
pub record NeedsFields (text : List ℕ) : Type 0 where
  pub name : List ℕ
  pub word : List ℕ
  pub rest : List ℕ
  pub fields : AreFields text name word rest
  pub needed : NeedsWord key_format word

-- The text is a key's fields with a comment, which is not empty.
pub record HasFieldComment (text : List ℕ) : Type 0 where
  pub key : Key
  pub comment : List ℕ
  pub fields : AreKeyFields text key comment
  pub some : 0 < length comment

-- Reading the text needs memory: for the key in it, or for the comment of a key.
abbrev pub NeedsKeyFields : List ℕ → Type 0
NeedsKeyFields text = NeedsFields text ⊎ HasFieldComment text

-- Memory was refused only where it was needed.
abbrev pub AsksKeyFields : {X : Type 0} → List ℕ → Result X Error → Type 0
AsksKeyFields text (Ok x) = Unit {0}
AsksKeyFields text (Err e) = cause e ≡ NoMemory → NeedsKeyFields text
