-- The entries of known_hosts: a marker or none, hosts, and a key's line (sshd(8), "SSH_KNOWN_HOSTS
-- FILE FORMAT"). That one space stands between them, and nothing in front, is the rule of the crate
-- ssh-key.
use Rattle.std.specs.Prelude.{◌≡◌, ◌≢◌, ℕ, ◌<◌, List, ◌∷◌, ◌++◌, length, codes, slice_index, Option, Some, None}
use Rattle.std.specs.List.{join_with_byte}
use Rattle.base64.specs.Engines.{standard}
use Rattle.base64.specs.GeneralPurpose.{encode_of, IsBytes}
use Rattle.sshkey_model.specs.Keys.{Key}
use Rattle.sshkey_model.specs.Lines.{space, key_line, IsKeyLine, IsWithout}
use Rattle.sshkey_matching.specs.Patterns.{patterns}

-- The key signs the keys of hosts; or it is revoked.
pub data Marker : Type 0 where
  CertAuthority Revoked : Marker

abbrev pub marker_text : Marker → List ℕ
marker_text CertAuthority = codes "@cert-authority"
marker_text Revoked = codes "@revoked"

-- Patterns of names; or a salt, and the HMAC-SHA1 of a name under the salt as its key.
pub data Hosts : Type 0 where
  Patterns : List (List ℕ) → Hosts
  HashedName : List ℕ → List ℕ → Hosts

abbrev pub comma : ℕ
comma = 0x2c

abbrev pub bar : ℕ
bar = 0x7c

abbrev pub hashed_mark : List ℕ
hashed_mark = codes "|1|"

-- the mark, and salt and hash in Base64 with a bar between
abbrev pub hashed_text : List ℕ → List ℕ → List ℕ
hashed_text salt hash = hashed_mark ++ (encode_of standard salt ++ (bar ∷ encode_of standard hash))

abbrev pub hosts_text : Hosts → List ℕ
hosts_text (Patterns ps) = join_with_byte comma ps
hosts_text (HashedName salt hash) = hashed_text salt hash

abbrev pub IsMarkedHashed : List ℕ → Type 0
IsMarkedHashed text = (rest : List ℕ) × (text ≡ hashed_mark ++ rest)

-- The hash is one of 20 bytes, as HMAC-SHA1 gives it.
pub record IsHashedName (text salt hash : List ℕ) : Type 0 where
  pub is : text ≡ hashed_text salt hash
  pub salt_bytes : IsBytes salt
  pub hash_bytes : IsBytes hash
  pub hash_len : length hash ≡ 20

-- Some text without the mark.
pub record ArePatterns (text : List ℕ) (ps : List (List ℕ)) : Type 0 where
  pub some : 0 < length text
  pub not_hashed : IsMarkedHashed text → ⊥
  pub are : ps ≡ patterns text

abbrev pub IsHosts : List ℕ → Hosts → Type 0
IsHosts text (Patterns ps) = ArePatterns text ps
IsHosts text (HashedName salt hash) = IsHashedName text salt hash

pub record KnownHost : Type 0 where
  pub marker : Option Marker
  pub hosts : Hosts
  pub key : Key
  pub comment : List ℕ

abbrev pub at_sign : ℕ
at_sign = 0x40

-- a marker and a space before the rest; or none, and then no at sign at the front
abbrev pub IsMarked : Option Marker → List ℕ → List ℕ → Type 0
IsMarked None entry rest = (entry ≡ rest) × (slice_index entry 0 ≢ at_sign)
IsMarked (Some m) entry rest = entry ≡ marker_text m ++ (space ∷ rest)

-- a marker or none, hosts without a space, a space, and the key's line
pub record IsKnownHost (entry : List ℕ) (h : KnownHost) : Type 0 where
  pub hosts_part : List ℕ
  pub rest : List ℕ
  pub is : IsMarked h.marker entry (hosts_part ++ (space ∷ rest))
  pub one_word : IsWithout space hosts_part
  pub hosts : IsHosts hosts_part h.hosts
  pub line : IsKeyLine rest h.key h.comment

-- ---- writing

-- the marker and a space, where there is one
abbrev pub after_marker : Option Marker → List ℕ → List ℕ
after_marker None rest = rest
after_marker (Some m) rest = marker_text m ++ (space ∷ rest)

abbrev pub known_text : KnownHost → List ℕ
known_text h = after_marker h.marker (hosts_text h.hosts ++ (space ∷ key_line h.key h.comment))
