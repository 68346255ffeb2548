-- What is answered of the entry of a line.
use Rattle.std.specs.Prelude.{◌≡◌, ◌≢◌, ◌⊎◌, ◌+◌, ℕ, List, ◌++◌, length, Option, Some, None, ◌≤◌, ◌-◌, [], ◌∷◌, take, drop}
use Rattle.sshkey_authorized_keys.specs.OpenSshEntries.{NeedsEntry}
use Rattle.sshkey_base.specs.declared.error.Error.{Error}
use Rattle.sshkey_entries.specs.AuthorizedKeys.{AuthorizedKey}
use Rattle.sshkey_entries.specs.OpenSshLines.{IsAuthorizedLine}
use Rattle.sshkey_entries.specs.KnownHosts.{CertAuthority, KnownHost, Marker, Revoked, hosts_text}
use Rattle.sshkey_model.specs.Keys.{Key, normal_key}
use Rattle.sshkey_model.specs.Parts.{flat}
use Rattle.sshkey_calls.specs.Numbers.{error_status}
use Rattle.sshkey_calls.specs.Rooms.{GivesValue, IsPlaced, bytes_of}
use Rattle.sshkey_entry_calls.specs.declared.entries.EntryParts.{EntryParts}
use Rattle.sshkey_entries.specs.Fields.{filled_lines}
use Rattle.sshkey_calls.specs.declared.part.Part.{Part}

-- what is told of an entry: what stands before the key, the key's normal form, the comment, and the
-- marker's number
pub record EntryText : Type 0 where
  pub front : List ℕ
  pub key : List ℕ
  pub comment : List ℕ
  pub marker : ℕ

abbrev pub entry_text : List ℕ → Key → List ℕ → ℕ → EntryText
entry_text front k comment marker = record { front = front; key = flat (normal_key k); comment = comment; marker = marker }

abbrev pub marker_number : Option Marker → ℕ
marker_number None = 0
marker_number (Some CertAuthority) = 1
marker_number (Some Revoked) = 2

abbrev pub of_authorized_key : AuthorizedKey → EntryText
of_authorized_key a = entry_text a.options a.key a.comment 0

abbrev pub of_known_host : KnownHost → EntryText
of_known_host h = entry_text (hosts_text h.hosts) h.key h.comment (marker_number h.marker)

-- ---- in the room

-- the parts, one after the other
abbrev pub content_of : EntryText → List ℕ
content_of x = x.front ++ (x.key ++ x.comment)

-- The answer says where each of them is, and how many bytes they take.
pub record ArePlaced (x : EntryText) (answer : EntryParts) : Type 0 where
  pub front : IsPlaced 0 x.front answer.front
  pub key : IsPlaced (length x.front) x.key answer.key
  pub comment : IsPlaced (length x.front + length x.key) x.comment answer.comment
  pub length : answer.length ≡ length (content_of x)
  pub marker : answer.marker ≡ x.marker

-- What a call answers that looks for an entry.
abbrev pub FindsEntry : {A : Type 0} → (A → Type 0) → (A → EntryText) → ℕ → EntryParts → EntryParts → List ℕ → List ℕ → Type 0
FindsEntry IsEntry text_of = GivesValue IsEntry (λ a. content_of (text_of a)) (λ a. ArePlaced (text_of a)) (λ (p : EntryParts). p.length)

-- The number is that of an error that names a fault of the line; 0, 1 and 2 name none.
abbrev pub TellsFault : (List ℕ → Error → Type 0) → List ℕ → ℕ → Type 0
TellsFault HasFault line n = n ≢ 0 → n ≢ 1 → n ≢ 2 → (e : Error) × HasFault line e × (n ≡ error_status e)

-- Memory may be asked for: by the fields of the line, or for the entry that it is.
abbrev pub NeedsAuthorizedEntry : List ℕ → Type 0
NeedsAuthorizedEntry line = NeedsEntry line ⊎ ((a : AuthorizedKey) × IsAuthorizedLine line a)

-- What is answered of the lines of a text.

-- 0 and the first of the filled lines from that place on, which lies there; none comes before it,
-- and the others are found after it. 3 exactly if there is none, and then the part is as it was.
pub record FindsLine (text : List ℕ) (place n : ℕ) (was part : Part) : Type 0 where
  pub found : n ≡ 0 → filled_lines (drop place text) ≡ bytes_of part text ∷ filled_lines (drop (part.start + part.length) text)
  pub within : n ≡ 0 → (place ≤ part.start) × (part.start + part.length ≤ length text)
  pub first : n ≡ 0 → filled_lines (take (part.start - place) (drop place text)) ≡ []
  pub none : n ≢ 0 → (filled_lines (drop place text) ≡ []) × (n ≡ 3)
  pub stays : n ≢ 0 → part ≡ was
