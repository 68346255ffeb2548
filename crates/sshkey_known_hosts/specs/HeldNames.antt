-- For which names a line of known_hosts may be, as a number in which the hashes of its names are.
use Rattle.std.specs.Prelude.{◌≡◌, ◌*◌, ◌%◌, ◌^◌, ℕ, List, [], ◌∷◌, map, bit_and, bit_xor, Option}
use Rattle.std.specs.Char.{to_ascii_lowercase}
use Rattle.std.specs.List.{Any}
use Rattle.sshkey_entries.specs.Fields.{filled_lines}
use Rattle.sshkey_entries.specs.HostVerdicts.{HidesEntry, IsForOthers, Lists, ListsOther}
use Rattle.sshkey_entries.specs.KnownHosts.{Marker}
use Rattle.sshkey_model.specs.Keys.{Key}

-- one byte more of FNV-1a of 64 bits (Fowler, Noll and Vo)
abbrev pub fnv_step : ℕ → ℕ → ℕ
fnv_step hash c = (bit_xor hash c * 0x100000001b3) % 2 ^ 64

abbrev pub fnv_from : ℕ → List ℕ → ℕ
fnv_from hash [] = hash
fnv_from hash (c ∷ text) = fnv_from (fnv_step hash c) text

-- the hash of a name in small letters
abbrev pub name_hash : List ℕ → ℕ
name_hash name = fnv_from 0xcbf29ce484222325 (map to_ascii_lowercase name)

-- The bits of the hash are among those of the number.
abbrev pub IsAmong : ℕ → ℕ → Type 0
IsAmong names hash = bit_and names hash ≡ hash

-- The line is for others than each name whose hash is not among these.
abbrev pub MayBeFor : ℕ → List ℕ → Type 0
MayBeFor names line = (hmac : List ℕ → List ℕ → List ℕ) (name : List ℕ) → ¬ IsAmong names (name_hash name) → IsForOthers hmac name line

-- The lines say nothing of the name: none is an entry for it, and none could be one.
abbrev pub SayNothing : (List ℕ → List ℕ → List ℕ) → List ℕ → List (List ℕ) → Type 0
SayNothing hmac name lines = ((marker : Option Marker) (key : Key) → ¬ Any (Lists hmac name marker key) lines) × ((marker : Option Marker) → ¬ Any (ListsOther hmac name marker) lines) × ¬ Any (HidesEntry hmac name) lines

-- The text says nothing of a name whose hash is not among these.
abbrev pub TellsNames : ℕ → List ℕ → Type 0
TellsNames names text = (hmac : List ℕ → List ℕ → List ℕ) (name : List ℕ) → ¬ IsAmong names (name_hash name) → SayNothing hmac name (filled_lines text)
