-- The lines of authorized_keys and known_hosts as OpenSSH reads them (sshd(8), "AUTHORIZED_KEYS
-- FILE FORMAT" and "SSH_KNOWN_HOSTS FILE FORMAT"). A line that begins with a `#` is a comment, and
-- fields are separated by spaces or tabs, which may also stand in front.
use Rattle.std.specs.Prelude.{◌≡◌, ◌≢◌, ◌⊎◌, ℕ, List, [], ◌++◌, length, slice_index, Option, Some, None}
use Rattle.sshkey_model.specs.Lines.{space, IsWithout}
use Rattle.sshkey_entries.specs.AuthorizedKeys.{AuthorizedKey}
use Rattle.sshkey_entries.specs.Entries.{hash_sign}
use Rattle.sshkey_entries.specs.Fields.{without_blanks, IsField, EndsField, AreKeyFields, AreNoKeyFields, EndsOptions}
use Rattle.sshkey_entries.specs.KnownHosts.{Marker, CertAuthority, Revoked, marker_text, at_sign, Hosts, IsHosts, KnownHost}
use Rattle.sshkey_entries.specs.OtherKeys.{AreForeignKeyFields}

-- ---- authorized_keys

-- The text is a key's fields; there are no options.
pub record IsKeyAlone (text : List ℕ) (a : AuthorizedKey) : Type 0 where
  pub options : a.options ≡ []
  pub fields : AreKeyFields text a.key a.comment

-- The text begins with no key. It is options, which end at the first space or tab outside quotes,
-- and a key's fields.
pub record IsAfterOptions (text : List ℕ) (a : AuthorizedKey) : Type 0 where
  pub rest : List ℕ
  pub is : text ≡ a.options ++ rest
  pub ends : EndsOptions text (length a.options)
  pub fields : AreKeyFields (without_blanks rest) a.key a.comment
  pub no_key : AreNoKeyFields text

pub record IsAuthorizedLine (line : List ℕ) (a : AuthorizedKey) : Type 0 where
  pub no_comment : slice_index (without_blanks line) 0 ≢ hash_sign
  pub is : IsKeyAlone (without_blanks line) a ⊎ IsAfterOptions (without_blanks line) a

-- ---- known_hosts

-- ssh ends a marker at the first space of the line, and at a tab only where no space follows. A
-- revocation counts even with a tab after its marker.
abbrev pub EndsMarker : Marker → List ℕ → Type 0
EndsMarker CertAuthority after = (slice_index after 0 ≡ space) ⊎ IsWithout space after
EndsMarker Revoked after = Unit {0}

-- one marker before the rest, which is a field of its own; or none, and then no at sign at the
-- front
abbrev pub IsMarkedLine : Option Marker → List ℕ → List ℕ → Type 0
IsMarkedLine None text rest = (text ≡ rest) × (slice_index text 0 ≢ at_sign)
IsMarkedLine (Some m) text rest = (after : List ℕ) × (text ≡ marker_text m ++ after) × (EndsField after × EndsMarker m after) × (rest ≡ without_blanks after) × (slice_index rest 0 ≢ at_sign)

-- A marker or none, hosts, and a key's fields. No byte is 0, where ssh takes the hosts to end.
pub record IsHostLine (line : List ℕ) (h : KnownHost) : Type 0 where
  pub no_zero : IsWithout 0 line
  pub hosts_part : List ℕ
  pub after_hosts : List ℕ
  pub no_comment : slice_index (without_blanks line) 0 ≢ hash_sign
  pub marked : IsMarkedLine h.marker (without_blanks line) (hosts_part ++ after_hosts)
  pub one_word : IsField hosts_part
  pub hosts_end : EndsField after_hosts
  pub hosts : IsHosts hosts_part h.hosts
  pub fields : AreKeyFields (without_blanks after_hosts) h.key h.comment

-- The same with the fields of a key whose kind is none here.
pub record IsOtherHostLine (line : List ℕ) (marker : Option Marker) (hosts : Hosts) : Type 0 where
  pub no_zero : IsWithout 0 line
  pub hosts_part : List ℕ
  pub after_hosts : List ℕ
  pub no_comment : slice_index (without_blanks line) 0 ≢ hash_sign
  pub marked : IsMarkedLine marker (without_blanks line) (hosts_part ++ after_hosts)
  pub one_word : IsField hosts_part
  pub hosts_end : EndsField after_hosts
  pub are : IsHosts hosts_part hosts
  pub fields : AreForeignKeyFields (without_blanks after_hosts)
