-- In which lines a key may be spelled.
use Rattle.std.specs.Prelude.{◌≡◌, ◌≤◌, ℕ, List, ◌++◌, filter, length, not}
use Rattle.base64.specs.Engines.{standard}
use Rattle.base64.specs.GeneralPurpose.{encode_of}
use Rattle.sshkey_entries.specs.Fields.{is_white}
use Rattle.user_keys.specs.Spellings.{MaySpell}

-- A word of a line is, white space within aside, the Base64 of bytes in which a key's own part
-- stands, whatever stands before and after it. Then the key may be spelled in the line.
abbrev pub WordsAreMarked : Type 0
WordsAreMarked = (part blob before after front word back : List ℕ) → 17 ≤ length part → blob ≡ before ++ (part ++ after) → filter (λ c. not (is_white c)) word ≡ encode_of standard blob → MaySpell part (front ++ (word ++ back))
