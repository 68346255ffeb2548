-- Worked examples of what lines of known_hosts say of a host's key, on both sides of each edge: a
-- line, and the same with one thing changed (sshd(8), "SSH_KNOWN_HOSTS FILE FORMAT"; ssh(1),
-- "VERIFYING HOST KEYS"; hostfile.c of OpenSSH). `ssh-keygen -F` and ssh(1) of 9.2 were asked.
use Rattle.std.specs.Prelude.{◌≡◌, ℕ, List, [], ◌∷◌, ◌++◌, Option, None, Some, true, false, codes, replicate}
use Rattle.std.specs.List.{All}
use Rattle.sshkey_entries.specs.HostVerdicts.{known_name}
use Rattle.sshkey_entries.specs.Fields.{IsKept}
use Rattle.sshkey_entries.specs.KnownHosts.{CertAuthority, KnownHost, Marker, after_marker}
use Rattle.sshkey_entries.specs.KnownHosts as known
use Rattle.sshkey_model.specs.CertificateExamples.{authority}
use Rattle.sshkey_model.specs.KeyExamples.{ed25519_key}
use Rattle.sshkey_model.specs.Lines.{space}
use Rattle.sshkey_known_hosts.specs.Hmac.{hmac_sha1}
use Rattle.sshkey_public.specs.PublicKeys.{comment_of, public_of}
use Rattle.sshkey_public.specs.declared.public_key.PublicKey.{PublicKey}
use Rattle.sshkey_known_hosts.specs.HostEntries.{marker_front, marker_of, IsReadBack}
use Rattle.sshkey_known_hosts.specs.HostLines.{IsToHost, is_unreadable, TellsHosts}
use Rattle.sshkey_known_hosts.specs.Verdicts.{HidesEntryIn, IsNumberOfFirst, AreInOrder, IsAuthorityLine, IsVerdict, in_front, is_authority_of, marked_verdict_of, max_severity_of}
use Rattle.sshkey_known_hosts.specs.declared.host_line.HostLine.TheVariants as is
use Rattle.sshkey_known_hosts.specs.declared.marker.Marker.TheVariants as marker
use Rattle.sshkey_known_hosts.specs.declared.verdict.Verdict.{Verdict}
use Rattle.sshkey_known_hosts.specs.declared.verdict.Verdict.TheVariants.{Changed, Revoked, Trusted, Unknown, Unreadable}

-- ---- lines

abbrev pub key_text : List ℕ
key_text = codes "ssh-ed25519 AAAAC3NzaC1lZDI1NTE5AAAAILM+rvN+ot98qgEN796jTiQfZfG1KaT0PtFDJ/XFSqti"

abbrev pub other_text : List ℕ
other_text = codes "ssh-ed25519 AAAAC3NzaC1lZDI1NTE5AAAAIH1MFwI1oRdEifXgBQvWQfCBBtA/Pi8YCUE/I3wXFJo2"

abbrev pub line : Option Marker → List ℕ → List ℕ
line m hosts = after_marker m (hosts ++ (space ∷ key_text))

abbrev pub host : List ℕ
host = codes "h.example"

-- What the lines say of the key that stands in `key_text`, by that name, and of that in
-- `other_text`.
abbrev pub Say : List ℕ → List (List ℕ) → Verdict → Verdict → Type 0
Say name lines v w = IsVerdict hmac_sha1 name ed25519_key lines v × IsVerdict hmac_sha1 name authority lines w

-- Of hosts for the name: a line lists its key, revokes it, or says of an authority and so nothing.
abbrev pub SaysOfKeys : List ℕ × List ℕ → Type 0
SaysOfKeys r = Say r.0 (line None r.1 ∷ []) Trusted Changed
    × Say r.0 (line (Some known.Revoked) r.1 ∷ []) Revoked Unknown
    × Say r.0 (line (Some CertAuthority) r.1 ∷ []) Unknown Unknown

-- Of hosts that are not for the name, a line says nothing.
abbrev pub SaysNothing : List ℕ × List ℕ → Type 0
SaysNothing r = (m : Option Marker) → Say r.0 (line m r.1 ∷ []) Unknown Unknown

-- ---- patterns

abbrev pub named : List (List ℕ × List ℕ)
named =
    (host, host)
    ∷ (host, codes "H.Example")
    ∷ (host, codes "g.example,h.example")
    ∷ (host, codes "*.example")
    ∷ (host, codes "?.example")
    ∷ (host, codes "*,!g.example")
    ∷ (host, codes "h.example,|x|")
    ∷ (host, replicate 1022 0x78 ++ codes ",h.example")
    ∷ (codes "[h.example]:2222", codes "[h.example]:2222")
    ∷ (codes "[h.example]:2222", codes "[*]:2222")
    ∷ (codes "[h.example]:2222", codes "[h.example]:*")
    ∷ []

abbrev pub unnamed : List (List ℕ × List ℕ)
unnamed =
    (host, codes "g.example")
    ∷ (host, codes "h.exampl")
    ∷ (host, codes "h.example.")
    ∷ (host, codes "?h.example")
    ∷ (host, codes "h.example;g.example")
    ∷ (host, codes "!g.example")
    ∷ (host, codes "!h.example,*")
    ∷ (host, codes "*.example,!h.example")
    ∷ (host, codes "|x|,h.example")
    ∷ (host, replicate 1023 0x78 ++ codes ",h.example")
    ∷ (host, codes "[h.example]:2222")
    ∷ (codes "[h.example]:2222", host)
    ∷ (codes "[h.example]:2222", codes "[h.example]:22")
    ∷ []

abbrev pub Patterns : Type 0
Patterns = All SaysOfKeys named × All SaysNothing unnamed

-- The name that is asked about: in small letters, and between brackets at another port.
abbrev pub Names : Type 0
Names = (known_name (codes "H.Example") 22 ≡ host)
    × (known_name (codes "H.Example") 2222 ≡ codes "[h.example]:2222")
    × (known_name (codes "fd00::1") 2222 ≡ codes "[fd00::1]:2222")

-- ---- hashes

-- of `h.example` and of `[h.example]:2222`, as `ssh-keygen -H` wrote them; the last salt has 19 bytes
abbrev pub hashed : List ℕ
hashed = codes "|1|/msvAavr8/o4oo7m6qsivIMux8k=|2HapNFj+4l+dMdGPqXUBAEdUlfY="

abbrev pub hashed_at_port : List ℕ
hashed_at_port = codes "|1|0XW9S++19vGCHhvDryumID1PA1E=|v+Id+vM/KU0ctpb1L42lZ6QelTQ="

abbrev pub short_salt : List ℕ
short_salt = codes "|1|AAECAwQFBgcICQoLDA0ODxAREg==|gs1sQq2+8JRWdCHWwg/bKdx0uqU="

abbrev pub Hashes : Type 0
Hashes = SaysOfKeys (host, hashed)
    × SaysNothing (codes "g.example", hashed)
    × SaysNothing (codes "[h.example]:2222", hashed)
    × SaysOfKeys (codes "[h.example]:2222", hashed_at_port)
    × SaysNothing (host, hashed_at_port)
    × SaysNothing (host, short_salt)

-- ---- lines that are none

abbrev tab : List ℕ
tab = 9 ∷ []

abbrev pub MayRevoke : List ℕ → Type 0
MayRevoke text = Say host (text ∷ []) Unreadable Unreadable

-- Another marker, two of them, a tab after that of an authority, a zero byte, and no key: ssh(1)
-- passes over each of them, and it may be a revocation. What is for others says nothing.
abbrev pub BrokenLines : Type 0
BrokenLines = MayRevoke (codes "@gibberish h.example " ++ key_text)
    × MayRevoke (codes "@revoked @cert-authority h.example " ++ key_text)
    × MayRevoke (codes "@cert-authority" ++ tab ++ codes "h.example " ++ key_text)
    × MayRevoke (codes "g.example " ++ key_text ++ (0 ∷ []))
    × MayRevoke (codes "h.example ssh-ed25519")
    × Say host (codes "g.example ssh-ed25519" ∷ []) Unknown Unknown

-- Blanks in front and between, a comment, and a tab after the other marker.
abbrev pub Blanks : Type 0
Blanks = Say host ((tab ++ codes "  h.example" ++ tab ++ key_text ++ codes " # me") ∷ []) Trusted Changed
    × Say host ((codes "@revoked" ++ tab ++ codes "h.example " ++ key_text) ∷ []) Revoked Unknown

-- ---- keys of former kinds

-- of XMSS, as the ssh-keygen of an OpenSSH 9.2 with it made one
abbrev pub xmss_text : List ℕ
xmss_text = codes "ssh-xmss@openssh.com AAAAFHNzaC14bXNzQG9wZW5zc2guY29tAAAAFVhNU1NfU0hBMi0yNTZfVzE2X0gxMAAAAEC5rpxc6nN/f6k8f/5nWhQ87mqPEujl3o43jDC8RMsC87hTHqsCeVpkiX78DoCZtQJWHAEP3qB0oS2SdMly6sex"

abbrev pub xmss_line : Option Marker → List ℕ
xmss_line m = after_marker m (host ++ (space ∷ xmss_text))

-- the key in `key_text`, under that name
abbrev pub misnamed_text : List ℕ
misnamed_text = codes "ssh-xmss@openssh.com AAAAC3NzaC1lZDI1NTE5AAAAILM+rvN+ot98qgEN796jTiQfZfG1KaT0PtFDJ/XFSqti"

-- a key of a security key under the name of WebAuthn, in its bytes too
abbrev pub webauthn_text : List ℕ
webauthn_text = codes "webauthn-sk-ecdsa-sha2-nistp256@openssh.com AAAAK3dlYmF1dGhuLXNrLWVjZHNhLXNoYTItbmlzdHAyNTZAb3BlbnNzaC5jb20AAAAIbmlzdHAyNTYAAABBBGsX0fLhLEJH+Lzm5WOkQPJ3A32BLeszoPShOUXYmMKWT+NC4v4af5uO5+tKfA+eFivOM1drMV7Oy7ZAaDe/UfUAAAAEc3NoOg=="

-- A line of XMSS has another key, and revokes none that is asked about. One may that has other bytes
-- under its name; and one under the name of WebAuthn does: ssh reads the security key's.
abbrev pub FormerKinds : Type 0
FormerKinds = Say host (xmss_line None ∷ []) Changed Changed
    × Say host (xmss_line (Some known.Revoked) ∷ []) Unknown Unknown
    × Say host (xmss_line (Some CertAuthority) ∷ []) Unknown Unknown
    × Say host (line None host ∷ xmss_line (Some known.Revoked) ∷ []) Trusted Changed
    × MayRevoke (after_marker (Some known.Revoked) (host ++ (space ∷ misnamed_text)))
    × MayRevoke (after_marker (Some known.Revoked) (host ++ (space ∷ webauthn_text)))

-- ---- several lines

abbrev pub other_line : List ℕ
other_line = host ++ (space ∷ other_text)

abbrev pub broken_line : List ℕ
broken_line = codes "h.example ssh-ed25519"

abbrev pub revoking : List ℕ
revoking = line (Some known.Revoked) host

-- bytes that are no UTF-8, as those of ISO 8859-1
abbrev pub latin : List ℕ
latin = codes "gr" ++ (0xf6 ∷ 0xdf ∷ codes "e")

-- A comment decides nothing, and is kept where it is UTF-8.
abbrev pub Comments : Type 0
Comments = Say host ((line None host ++ (space ∷ latin)) ∷ []) Trusted Changed
    × Say host ((revoking ++ (space ∷ latin)) ∷ []) Revoked Unknown
    × IsKept (codes "me") (codes "me")
    × ¬ IsKept (codes "me") []
    × IsKept latin []
    × ¬ IsKept latin latin

-- Whichever stands first: a line that revokes the key, one that cannot be read, one that lists the
-- key, and one that lists another.
abbrev pub Orders : Type 0
Orders = Say host [] Unknown Unknown
    × Say host (line None host ∷ revoking ∷ []) Revoked Changed
    × Say host (revoking ∷ line None host ∷ []) Revoked Changed
    × Say host (revoking ∷ broken_line ∷ []) Revoked Unreadable
    × Say host (broken_line ∷ revoking ∷ []) Revoked Unreadable
    × Say host (line None host ∷ broken_line ∷ []) Unreadable Unreadable
    × Say host (broken_line ∷ line None host ∷ []) Unreadable Unreadable
    × Say host (line None host ∷ other_line ∷ []) Trusted Trusted
    × Say host (other_line ∷ line None host ∷ []) Trusted Trusted
    × Say host (other_line ∷ line (Some CertAuthority) host ∷ []) Changed Trusted
    × ¬ IsVerdict hmac_sha1 host ed25519_key (broken_line ∷ line None host ∷ []) Trusted
    × ¬ IsVerdict hmac_sha1 host ed25519_key (other_line ∷ line None host ∷ []) Changed

-- ---- verdicts and markers

-- Of two verdicts the more severe one, whichever comes first.
abbrev pub Severities : Type 0
Severities = (max_severity_of Revoked Unreadable ≡ Revoked)
    × (max_severity_of Unreadable Revoked ≡ Revoked)
    × (max_severity_of Unreadable Trusted ≡ Unreadable)
    × (max_severity_of Trusted Unreadable ≡ Unreadable)
    × (max_severity_of Trusted Changed ≡ Trusted)
    × (max_severity_of Changed Trusted ≡ Trusted)
    × (max_severity_of Changed Unknown ≡ Changed)
    × (max_severity_of Unknown Changed ≡ Changed)
    × (max_severity_of Unknown Unknown ≡ Unknown)

abbrev pub Markers : Type 0
Markers = (marker_of marker.CertAuthority ≡ CertAuthority)
    × (marker_of marker.Revoked ≡ known.Revoked)
    × (marker_front (Some marker.CertAuthority) ≡ codes "@cert-authority ")
    × (marker_front (Some marker.Revoked) ≡ codes "@revoked ")
    × (marker_front None ≡ [])
    × (marked_verdict_of (Some marker.CertAuthority) true ≡ Unknown)
    × (marked_verdict_of (Some marker.CertAuthority) false ≡ Unknown)
    × (marked_verdict_of (Some marker.Revoked) true ≡ Revoked)
    × (marked_verdict_of (Some marker.Revoked) false ≡ Unknown)
    × (marked_verdict_of None true ≡ Trusted)
    × (marked_verdict_of None false ≡ Changed)
    × (is_authority_of (Some marker.CertAuthority) ≡ true)
    × (is_authority_of (Some marker.Revoked) ≡ false)
    × (is_authority_of None ≡ false)

-- ---- authorities

abbrev pub by_line : List ℕ
by_line = line (Some CertAuthority) host

-- A line of the host's with the marker has its key as an authority's, and no other line has.
abbrev pub AuthorityLines : Type 0
AuthorityLines = (k : PublicKey) → public_of k ≡ ed25519_key → comment_of k ≡ []
    → IsAuthorityLine hmac_sha1 host by_line (Some k)
    × ¬ IsAuthorityLine hmac_sha1 host by_line None
    × IsAuthorityLine hmac_sha1 host (line None host) None
    × ¬ IsAuthorityLine hmac_sha1 host (line None host) (Some k)
    × ¬ IsAuthorityLine hmac_sha1 host revoking (Some k)
    × IsAuthorityLine hmac_sha1 (codes "g.example") by_line None
    × AreInOrder hmac_sha1 host (by_line ∷ line None host ∷ []) (k ∷ [])
    × ¬ AreInOrder hmac_sha1 host (by_line ∷ line None host ∷ []) []
    × (in_front (Some k) (k ∷ []) ≡ k ∷ k ∷ [])
    × (in_front None (k ∷ []) ≡ k ∷ [])

-- ---- what a line is

abbrev pub LineKinds : Type 0
LineKinds = IsToHost hmac_sha1 host broken_line is.Unreadable
    × IsToHost hmac_sha1 (codes "g.example") by_line is.ForOthers
    × ((k : PublicKey) → public_of k ≡ ed25519_key → comment_of k ≡ [] → IsToHost hmac_sha1 host by_line (is.Entry (Some marker.CertAuthority) k))
    × ((k : PublicKey) → ¬ IsToHost hmac_sha1 host by_line (is.Entry None k))
    × (is_unreadable is.Unreadable ≡ true)
    × (is_unreadable is.ForOthers ≡ false)
    × (is_unreadable (is.OtherKey None) ≡ false)
    × ((k : PublicKey) → is_unreadable (is.Entry None k) ≡ false)
    × TellsHosts hmac_sha1 host host (Some true)
    × TellsHosts hmac_sha1 host (codes "g.example") (Some false)
    × TellsHosts hmac_sha1 host [] None

-- ---- the number of a line

-- Lines are numbered from 1. A comment is none that counts, whatever host its front names.
abbrev pub Numbers : Type 0
Numbers = IsNumberOfFirst (λ l. l ≡ codes "b") (codes "a" ∷ codes "b" ∷ codes "b" ∷ []) (Some 2)
    × IsNumberOfFirst (λ l. l ≡ codes "a") (codes "a" ∷ codes "b" ∷ []) (Some 1)
    × IsNumberOfFirst (λ l. l ≡ codes "c") (codes "a" ∷ codes "b" ∷ []) None
    × HidesEntryIn hmac_sha1 host broken_line
    × ¬ HidesEntryIn hmac_sha1 host (codes "#,h.example ssh-ed25519")

-- ---- lines that are written

abbrev pub written : List ℕ → KnownHost
written pattern = record { marker = None; hosts = known.Patterns (pattern ∷ []); key = ed25519_key; comment = [] }

-- A pattern with a tab is written as a line that ssh reads otherwise, one with a line feed as two.
abbrev pub WrittenLines : Type 0
WrittenLines = IsReadBack (written host)
    × ¬ IsReadBack (written (codes "a" ++ tab ++ codes "b"))
    × ¬ IsReadBack (written (codes "a" ++ (10 ∷ []) ++ codes "b"))
