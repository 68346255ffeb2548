-- What a verdict on a host's key means, and which keys are those of its authorities.
use Rattle.std.specs.Prelude.{◌≡◌, ◌↔◌, ℕ, List, [], ◌∷◌, ◌++◌, Option, Some, None, Bool, true, false, ◌+◌, length, IsSome}
use Rattle.std.specs.List.{Any}
use Rattle.sshkey_model.specs.Keys.{Key}
use Rattle.sshkey_entries.specs.HostVerdicts.{IsRevoked, HidesSome, IsListed, IsKnown, IsAuthority, Lists, HidesEntry}
use Rattle.sshkey_entries.specs.Fields.{IsKept, filled_lines, is_filled, without_blanks}
use Rattle.sshkey_entries.specs.KnownHosts.{CertAuthority}
use Rattle.sshkey_public.specs.PublicKeys.{comment_of, public_of}
use Rattle.sshkey_public.specs.declared.public_key.PublicKey.{PublicKey}
use Rattle.sshkey_known_hosts.specs.declared.marker.Marker.{Marker}
use Rattle.sshkey_known_hosts.specs.declared.marker.Marker.TheVariants as marker
use Rattle.sshkey_known_hosts.specs.declared.verdict.Verdict.{Verdict}
use Rattle.sshkey_known_hosts.specs.declared.verdict.Verdict.TheVariants.{Revoked, Unreadable, Trusted, Changed, Unknown}
use Rattle.std.specs.Str.Lines.{lines}

-- The first of these that holds: a line revokes the key; one may be hidden; one has the key; one
-- has another; none has any.
abbrev pub IsVerdict : (List ℕ → List ℕ → List ℕ) → List ℕ → Key → List (List ℕ) → Verdict → Type 0
IsVerdict hmac name key lines Revoked = IsRevoked hmac name key lines
IsVerdict hmac name key lines Unreadable = ¬ IsRevoked hmac name key lines × HidesSome hmac name lines
IsVerdict hmac name key lines Trusted = ¬ IsRevoked hmac name key lines × ¬ HidesSome hmac name lines × IsListed hmac name key lines
IsVerdict hmac name key lines Changed = ¬ IsRevoked hmac name key lines × ¬ HidesSome hmac name lines × ¬ IsListed hmac name key lines × IsKnown hmac name lines
IsVerdict hmac name key lines Unknown = ¬ IsRevoked hmac name key lines × ¬ HidesSome hmac name lines × ¬ IsKnown hmac name lines

-- of an entry for the name with that marker, whose key is the one that is asked about or not
abbrev pub marked_verdict_of : Option Marker → Bool → Verdict
marked_verdict_of (Some marker.Revoked) true = Revoked
marked_verdict_of (Some marker.Revoked) false = Unknown
marked_verdict_of (Some marker.CertAuthority) same = Unknown
marked_verdict_of None true = Trusted
marked_verdict_of None false = Changed

-- No two of them hold.
abbrev pub OneVerdict : Type 0
OneVerdict = (hmac : List ℕ → List ℕ → List ℕ) (name : List ℕ) (key : Key) (lines : List (List ℕ)) (v w : Verdict) → IsVerdict hmac name key lines v → IsVerdict hmac name key lines w → v ≡ w

-- of two verdicts the one that comes first
abbrev pub max_severity_of : Verdict → Verdict → Verdict
max_severity_of Revoked w = Revoked
max_severity_of v Revoked = Revoked
max_severity_of Unreadable w = Unreadable
max_severity_of v Unreadable = Unreadable
max_severity_of Trusted w = Trusted
max_severity_of v Trusted = Trusted
max_severity_of Changed w = Changed
max_severity_of v Changed = Changed
max_severity_of Unknown Unknown = Unknown

-- Where lines have the first verdict and other lines the second, all of them have the third.
abbrev pub SayTogether : Verdict → Verdict → Verdict → Type 0
SayTogether v w together = (hmac : List ℕ → List ℕ → List ℕ) (name : List ℕ) (key : Key) (lines others : List (List ℕ)) → IsVerdict hmac name key lines v → IsVerdict hmac name key others w → IsVerdict hmac name key (lines ++ others) together

-- ---- authorities

-- A key is among them exactly if a line has it, as that of an authority.
abbrev pub AreAuthorities : (List ℕ → List ℕ → List ℕ) → List ℕ → List (List ℕ) → List PublicKey → Type 0
AreAuthorities hmac name lines keys = (key : Key) → Any (λ k. public_of k ≡ key) keys ↔ IsAuthority hmac name key lines

abbrev pub is_authority_of : Option Marker → Bool
is_authority_of (Some marker.CertAuthority) = true
is_authority_of (Some marker.Revoked) = false
is_authority_of None = false

-- The key of the line, which is an entry of an authority for the name, and its comment, or an empty
-- one in place of one that is no UTF-8; or it is none.
abbrev pub IsAuthorityLine : (List ℕ → List ℕ → List ℕ) → List ℕ → List ℕ → Option PublicKey → Type 0
IsAuthorityLine hmac name line None = (key : Key) → Lists hmac name (Some CertAuthority) key line → ⊥
IsAuthorityLine hmac name line (Some k) = (l : Lists hmac name (Some CertAuthority) (public_of k) line) × IsKept l.entry.comment (comment_of k)

abbrev pub in_front : Option PublicKey → List PublicKey → List PublicKey
in_front None keys = keys
in_front (Some k) keys = k ∷ keys

-- They are the keys and the comments of these lines, in the order of the lines, one for each that
-- is such an entry.
abbrev pub AreInOrder : (List ℕ → List ℕ → List ℕ) → List ℕ → List (List ℕ) → List PublicKey → Type 0
AreInOrder hmac name [] keys = keys ≡ []
AreInOrder hmac name (line ∷ lines) keys = (found : Option PublicKey) × (rest : List PublicKey) × IsAuthorityLine hmac name line found × AreInOrder hmac name lines rest × (keys ≡ in_front found rest)

-- Which line of a text of known_hosts cannot be read.

-- The line is neither empty nor a comment, and no entry, and may have been one for the name.
abbrev pub HidesEntryIn : (List ℕ → List ℕ → List ℕ) → List ℕ → List ℕ → Type 0
HidesEntryIn hmac name line = (is_filled (without_blanks line) ≡ true) × HidesEntry hmac name (without_blanks line)

-- the number, from 1, of the first of the lines of which that holds; or it holds of none
abbrev pub IsNumberOfFirst : (List ℕ → Type 0) → List (List ℕ) → Option ℕ → Type 0
IsNumberOfFirst P all None = ¬ Any P all
IsNumberOfFirst P all (Some n) = (before : List (List ℕ)) × (line : List ℕ) × (after : List (List ℕ)) × (all ≡ before ++ (line ∷ after)) × ¬ Any P before × P line × (n ≡ length before + 1)

-- Where a text makes a verdict `Unreadable`, one of its lines has a number.
abbrev pub UnreadableHasLine : Type 0
UnreadableHasLine = (hmac : List ℕ → List ℕ → List ℕ) (name : List ℕ) (key : Key) (text : List ℕ) (n : Option ℕ) → IsVerdict hmac name key (filled_lines text) Unreadable → IsNumberOfFirst (HidesEntryIn hmac name) (lines text) n → IsSome n
