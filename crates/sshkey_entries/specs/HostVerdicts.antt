-- Which hosts of a line are for a host (sshd(8), "SSH_KNOWN_HOSTS FILE FORMAT").
use Rattle.std.specs.Prelude.{◌≡◌, ℕ, List, [], ◌∷◌, ◌++◌, map, slice_index, codes, decimal, length, ◌==◌, if◌then◌else◌, ◌⊎◌, Option, Some, None}
use Rattle.std.specs.Char.{to_ascii_lowercase}
use Rattle.std.specs.List.{All, Any}
use Rattle.sshkey_entries.specs.KnownHosts.{Hosts, Patterns, HashedName, bar, Marker, Revoked, CertAuthority, IsHosts, KnownHost}
use Rattle.sshkey_entries.specs.Patterns.{IsNamed, IsShortPattern}
use Rattle.sshkey_model.specs.Keys.{Key}
use Rattle.sshkey_model.specs.Lines.{IsWithout}
use Rattle.sshkey_entries.specs.Entries.{IsNoEntry}
use Rattle.sshkey_entries.specs.Fields.{without_blanks, IsField, EndsField}
use Rattle.sshkey_entries.specs.OpenSshLines.{IsMarkedLine, IsHostLine, IsOtherHostLine}

-- A bar stands at their front, as in a hash.
abbrev pub BeginWithBar : List (List ℕ) → Type 0
BeginWithBar [] = ⊥
BeginWithBar (pattern ∷ rest) = slice_index pattern 0 ≡ bar

-- The patterns name it, letters in either case, and none of them is too long. OpenSSH takes a bar
-- at their front for a hash, and knows no other hash.
pub record AreForName (name : List ℕ) (patterns : List (List ℕ)) : Type 0 where
  pub named : IsNamed to_ascii_lowercase name patterns
  pub short : All IsShortPattern patterns
  pub no_hash : BeginWithBar patterns → ⊥

-- The hosts are for a name: by their patterns, or as its hash under the salt. OpenSSH draws a salt
-- of 20 bytes, and takes no other.
abbrev pub AreFor : (List ℕ → List ℕ → List ℕ) → List ℕ → Hosts → Type 0
AreFor hmac name (Patterns patterns) = AreForName name patterns
AreFor hmac name (HashedName salt hash) = (length salt ≡ 20) × (hash ≡ hmac salt name)

abbrev pub standard_port : ℕ
standard_port = 22

-- The name of a host in known_hosts: in small letters, and at another port than the standard one
-- between brackets, with a colon and the port after them.
abbrev pub known_name : List ℕ → ℕ → List ℕ
known_name host port = if port == standard_port then map to_ascii_lowercase host else codes "[" ++ map to_ascii_lowercase host ++ codes "]:" ++ decimal port

-- What the lines of known_hosts say of a host's key (sshd(8), "SSH_KNOWN_HOSTS FILE FORMAT";
-- ssh(1), "VERIFYING HOST KEYS").

-- The line is an entry with that marker or none, that key, and hosts that are for the name.
pub record Lists (hmac : List ℕ → List ℕ → List ℕ) (name : List ℕ) (marker : Option Marker) (key : Key) (line : List ℕ) : Type 0 where
  pub entry : KnownHost
  pub read : IsHostLine line entry
  pub marker_is : entry.marker ≡ marker
  pub key_is : entry.key ≡ key
  pub is_for : AreFor hmac name entry.hosts

-- The line is an entry with that marker or none, a key whose kind is none here, and hosts that are
-- for the name.
pub record ListsOther (hmac : List ℕ → List ℕ → List ℕ) (name : List ℕ) (marker : Option Marker) (line : List ℕ) : Type 0 where
  pub hosts : Hosts
  pub read : IsOtherHostLine line marker hosts
  pub is_for : AreFor hmac name hosts

-- It has a key whose kind is none here, whatever its hosts and its marker are.
abbrev pub HasOtherKey : List ℕ → Type 0
HasOtherKey line = (marker : Option Marker) × (hosts : Hosts) × IsOtherHostLine line marker hosts

-- Hosts stand in the line, after a marker or none, and they are not for the name. No byte is 0,
-- where ssh takes the hosts to end.
pub record IsForOthers (hmac : List ℕ → List ℕ → List ℕ) (name line : List ℕ) : Type 0 where
  pub no_zero : IsWithout 0 line
  pub marker : Option Marker
  pub hosts_part : List ℕ
  pub after : List ℕ
  pub hosts : Hosts
  pub marked : IsMarkedLine marker (without_blanks line) (hosts_part ++ after)
  pub one_word : IsField hosts_part
  pub ends : EndsField after
  pub are : IsHosts hosts_part hosts
  pub not_for : AreFor hmac name hosts → ⊥

-- The line is no entry, and may have been one for the name, of a key that can be asked about.
abbrev pub HidesEntry : (List ℕ → List ℕ → List ℕ) → List ℕ → List ℕ → Type 0
HidesEntry hmac name line = IsNoEntry IsHostLine line × ¬ IsForOthers hmac name line × ¬ HasOtherKey line

-- The line is an entry for the name without a marker, of whatever kind its key is.
abbrev pub IsKnownBy : (List ℕ → List ℕ → List ℕ) → List ℕ → List ℕ → Type 0
IsKnownBy hmac name line = ((key : Key) × Lists hmac name None key line) ⊎ ListsOther hmac name None line

-- ---- of all lines

-- One of the lines revokes the key.
abbrev pub IsRevoked : (List ℕ → List ℕ → List ℕ) → List ℕ → Key → List (List ℕ) → Type 0
IsRevoked hmac name key = Any (Lists hmac name (Some Revoked) key)

-- One of them has the key, without a marker.
abbrev pub IsListed : (List ℕ → List ℕ → List ℕ) → List ℕ → Key → List (List ℕ) → Type 0
IsListed hmac name key = Any (Lists hmac name None key)

-- One of them has some key, without a marker.
abbrev pub IsKnown : (List ℕ → List ℕ → List ℕ) → List ℕ → List (List ℕ) → Type 0
IsKnown hmac name = Any (IsKnownBy hmac name)

-- One of them is no entry, and may have been one for the name.
abbrev pub HidesSome : (List ℕ → List ℕ → List ℕ) → List ℕ → List (List ℕ) → Type 0
HidesSome hmac name = Any (HidesEntry hmac name)

-- One of them has the key, as that of an authority, which signs the keys of hosts.
abbrev pub IsAuthority : (List ℕ → List ℕ → List ℕ) → List ℕ → Key → List (List ℕ) → Type 0
IsAuthority hmac name key = Any (Lists hmac name (Some CertAuthority) key)
