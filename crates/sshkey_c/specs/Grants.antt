-- What a login by public key is granted (PROTOCOL.certkeys; sshd(8), "AUTHORIZED_KEYS FILE FORMAT").
use Rattle.std.specs.Prelude.{◌≡◌, ◌⊎◌, ◌<◌, ℕ, ◌+◌, ◌-◌, ◌^◌, List, [], ◌∷◌, ◌++◌, drop, length, replicate, Bool, true, false, not, ◌&&◌, is_some, Option, Some, None, codes, string_bytes, if◌then◌else◌, ◌==◌}
use Rattle.std.specs.Int.{to_be_bytes, w16}
use Rattle.login_terms.specs.Options.{Terms, terms_of}
use Rattle.login_terms.specs.Values.{HostAndPort}
use Rattle.sshkey_calls.specs.Rooms.{IsPlaced, IsPartOf, bytes_of}
use Rattle.sshkey_calls.specs.declared.part.Part.{Part}
use Rattle.sshkey_entry_calls.specs.declared.times.TimeSpan.{TimeSpan}
use Rattle.sshkey_fingerprints.specs.Fingerprints.{digest_of, fingerprint_hash}
use Rattle.sshkey_model.specs.Names.{Sha256}
use Rattle.sshkey_model.specs.Parts.{flat, Fits}
use Rattle.sshkey_model.specs.Texts.{string, IsText}
use Rattle.sshkey_matching.specs.declared.times.Span.{Span}
use Rattle.user_keys.specs.declared.grant.Certified.{Certified}
use Rattle.user_keys.specs.declared.grant.UserGrant.{UserGrant}
use Rattle.publickey_login.specs.declared.grant.PublickeyGrant.{PublickeyGrant}
use Rattle.sshkey_c.specs.Refusals.{said, source_number, text_number}
use Rattle.sshkey_c.specs.declared.grant.GrantParts.{GrantParts}
use Rattle.sshkey_c.specs.declared.refusal.Refusal.{Refusal}
use Rattle.std.specs.List.{AllByRecursion}
use Rattle.login_terms.specs.Questions.{Listens, Opens}
use Rattle.sshkey_c.specs.declared.forwarding.Way.{Way}
use Rattle.sshkey_c.specs.declared.forwarding.Way.TheVariants as way
use denote.Ref.{Bor}

-- ---- what is permitted

-- the number, where it holds
abbrev pub bit : ℕ → Bool → ℕ
bit number true = number
bit number false = 0

-- What the line leaves. Any command may run where none is forced, and any device of tunnels be had
-- where tunnels are permitted and none is named.
abbrev pub permits_of : Terms → ℕ
permits_of t =
    bit 1 t.permissions.pty
    + bit 2 t.permissions.port_forwarding
    + bit 4 t.permissions.agent_forwarding
    + bit 8 t.permissions.x11_forwarding
    + bit 16 t.permissions.user_rc
    + bit 32 (not (is_some t.command))
    + bit 64 (not t.touch_required)
    + bit 128 (not t.verify_required)
    + bit 256 t.permissions.tunnels
    + bit 512 (t.permissions.tunnels && not (is_some t.tunnel))

-- ---- where ports may be forwarded

-- any host, and any port
abbrev pub anywhere : HostAndPort
anywhere = record { host = codes "*"; port = None }

-- Nowhere, if forwarding is forbidden; and anywhere, if it is permitted and no place is named.
abbrev pub places : Bool → List HostAndPort → List HostAndPort
places false named = []
places true [] = anywhere ∷ []
places true (p ∷ more) = p ∷ more

abbrev pub to_open : Terms → List HostAndPort
to_open t = places t.permissions.port_forwarding t.permit_open

abbrev pub to_listen : Terms → List HostAndPort
to_listen t = places t.permissions.port_forwarding t.permit_listen

-- the seconds that may be the last; the greatest numbers where there is no last one
abbrev pub span_of : Option Span → TimeSpan
span_of None = record { first = 2 ^ 64 - 1; last = 2 ^ 64 - 1 }
span_of (Some s) = record { first = s.first; last = s.last }

abbrev pub or_zero : Option ℕ → ℕ
or_zero None = 0
or_zero (Some device) = device

-- the device, where there may be tunnels and one is named
abbrev pub tunnel_of : Terms → ℕ
tunnel_of t = if t.permissions.tunnels then or_zero t.tunnel else 0

-- ---- which certificate

abbrev pub serial_of : Option Certified → ℕ
serial_of None = 0
serial_of (Some by) = by.serial

abbrev pub key_id_of : Option Certified → List ℕ
key_id_of None = []
key_id_of (Some by) = string_bytes by.key_id

abbrev pub authority_of : Option Certified → List ℕ
authority_of None = replicate 32 0
authority_of (Some by) = digest_of by.authority

-- the fingerprint is by SHA-256, if there is one
abbrev pub IsBySha256 : Option Certified → Type 0
IsBySha256 None = Unit {0}
IsBySha256 (Some by) = fingerprint_hash by.authority ≡ Sha256

-- ---- what stands in the room

-- strings (RFC 4251, section 5), one after the other
abbrev pub strings : List (List ℕ) → List ℕ
strings [] = []
strings (s ∷ more) = flat (string s) ++ strings more

-- two bytes, or none for any port
abbrev pub port_bytes : Option ℕ → List ℕ
port_bytes None = []
port_bytes (Some port) = to_be_bytes w16 port

-- a host and a port, each as a string
abbrev pub permit_strings : List HostAndPort → List ℕ
permit_strings [] = []
permit_strings (p ∷ more) = flat (string p.host) ++ (flat (string (port_bytes p.port)) ++ permit_strings more)

abbrev pub or_empty : Option (List ℕ) → List ℕ
or_empty None = []
or_empty (Some bytes) = bytes

-- the command that has to run, or no bytes
abbrev pub command_of : UserGrant → List ℕ
command_of g = or_empty (terms_of g.terms).command

-- what stands before each part
abbrev pub before_open : UserGrant → List ℕ
before_open g = command_of g ++ key_id_of g.certified

abbrev pub before_listen : UserGrant → List ℕ
before_listen g = before_open g ++ permit_strings (to_open (terms_of g.terms))

abbrev pub before_environment : UserGrant → List ℕ
before_environment g = before_listen g ++ permit_strings (to_listen (terms_of g.terms))

abbrev pub grant_bytes : PublickeyGrant → List ℕ
grant_bytes g = before_environment g.user ++ strings (terms_of g.user.terms).environment

-- The answer says where each part is, what is permitted, until when, by which line of which text of
-- which source, by which certificate and for which key.
pub record ArePlaced (g : PublickeyGrant) (a : GrantParts) : Type 0 where
  pub force_command : IsPlaced 0 (command_of g.user) a.force_command
  pub key_id : IsPlaced (length (command_of g.user)) (key_id_of g.user.certified) a.key_id
  pub permit_open : IsPlaced (length (before_open g.user)) (permit_strings (to_open (terms_of g.user.terms))) a.permit_open
  pub permit_listen : IsPlaced (length (before_listen g.user)) (permit_strings (to_listen (terms_of g.user.terms))) a.permit_listen
  pub environment : IsPlaced (length (before_environment g.user)) (strings (terms_of g.user.terms).environment) a.environment
  pub length : a.length ≡ length (grant_bytes g)
  pub line : a.line ≡ g.user.line
  pub text : a.text ≡ text_number g.source
  pub serial : a.serial ≡ serial_of g.user.certified
  pub expires : a.expires ≡ span_of (terms_of g.user.terms).expires
  pub authority : a.authority.bytes ≡ authority_of g.user.certified
  pub key : a.key.bytes ≡ digest_of g.key
  pub permits : a.permits ≡ permits_of (terms_of g.user.terms)
  pub tunnel : a.tunnel ≡ tunnel_of (terms_of g.user.terms)
  pub source : a.source ≡ source_number g.source

abbrev pub no_part : Part
no_part = record { start = 0; length = 0 }

-- the grant of nothing, which says only how many bytes are needed, or which line of which text
-- refuses
abbrev pub no_grant : ℕ → Refusal → GrantParts
no_grant needed reason = record { force_command = no_part; key_id = no_part; permit_open = no_part; permit_listen = no_part; environment = no_part; length = needed; line = reason.line; text = reason.text; serial = 0; expires = record { first = 0; last = 0 }; authority = record { bytes = replicate 32 0 }; key = record { bytes = replicate 32 0 }; permits = 0; tunnel = 0; source = reason.source }

-- Nothing is granted, and nothing is said but that.
abbrev pub IsRefused : GrantParts → Type 0
IsRefused a = a ≡ no_grant 0 (record (said 0) { source = a.source; text = a.text; line = a.line })

-- ---- how it is laid out

-- The bytes follow what stood before, and the part says where they are.
abbrev pub AddsPart : List ℕ → Part → List ℕ → List ℕ → Type 0
AddsPart bytes part before after = (after ≡ before ++ bytes) × IsPlaced (length before) bytes part

-- The content stands at the front of the room, and the grant is answered, with 0; or the room is too
-- short for it, and that is answered, with 2.
abbrev pub Gives : {G : Type 0} → List ℕ → G → G → ℕ → G → List ℕ → List ℕ → Type 0
Gives content grant short n answer before after = ((n ≡ 0) × (answer ≡ grant) × (after ≡ content ++ drop (length content) before)) ⊎ ((n ≡ 2) × (answer ≡ short) × (after ≡ before) × (length before < length content))

-- What a server asks once the client is let in, where the grant stands in its room (RFC 4254,
-- section 7).

-- ---- the places that a part of the room has

-- two bytes write the port
abbrev pub IsWord : Option ℕ → Type 0
IsWord None = Unit {0}
IsWord (Some port) = port < 65536

-- The host is a text that can stand in a string, and the port one of two bytes, or any.
abbrev pub IsPlace : HostAndPort → Type 0
IsPlace p = IsText p.host × Fits (string p.host) × IsWord p.port

-- The part of the room has these hosts and ports, and no others.
pub record HasPlaces (places : List HostAndPort) (part : Part) (room : List ℕ) : Type 0 where
  pub each : AllByRecursion IsPlace places
  pub within : IsPartOf part room
  pub bytes : bytes_of part room ≡ permit_strings places

-- ---- what is asked

-- the place stands for the host and the port that the client asks for
abbrev pub IsFor : Way → List ℕ → ℕ → HostAndPort → Type 0
IsFor way.Open host port p = Opens p.host p.port host port
IsFor way.Listen host port p = Listens p.host p.port host port

-- ---- how they are found

-- this host and port, and then the rest
abbrev pub IsPlaceThen : HostAndPort → List ℕ → Option (Bor (List ℕ) × Option ℕ × Bor (List ℕ)) → Type 0
IsPlaceThen p more None = ⊥
IsPlaceThen p more (Some found) = (p.host ≡ found.0.now) × (p.port ≡ found.1) × (more ≡ found.2.now)

-- What is found, if a place and then the rest are all the bytes.
abbrev pub BeginsWithPlace : HostAndPort → List ℕ → List ℕ → Option (Bor (List ℕ) × Option ℕ × Bor (List ℕ)) → Type 0
BeginsWithPlace p more bytes found = bytes ≡ flat (string p.host) ++ (flat (string (port_bytes p.port)) ++ more) → IsPlaceThen p more found

-- What runs once the client is let in, where the grant stands in its room (RFC 4254, section 6.5).

-- a command, or a shell by 0
abbrev pub asked_for : ℕ → List ℕ → Option (List ℕ)
asked_for asks_command asked = if asks_command == 0 then None else Some asked

-- The grant says whether the terms have a command, which the room has then.
pub record HasCommand (t : Terms) (grant : GrantParts) (room : List ℕ) : Type 0 where
  pub permits : grant.permits ≡ permits_of t
  pub within : IsPartOf grant.force_command room
  pub bytes : bytes_of grant.force_command room ≡ or_empty t.command
