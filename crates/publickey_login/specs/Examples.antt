-- Worked examples: who has signed, on both sides of each edge.
use Rattle.std.specs.Prelude.{◌≡◌, ℕ, List, ◌++◌, replicate, Option, Some, None, true, false, Bool, codes}
use Rattle.sshkey_model.specs.HexText.{hex}
use Rattle.sshkey_model.specs.Keys.{Key, Ed25519, SecurityKey, SkEcdsa, SkEd25519}
use Rattle.sshkey_model.specs.Verification.{Question}
use Rattle.sshkey_userauth.specs.declared.judgement.Requirements.{Requirements}
use Rattle.sshkey_userauth.specs.declared.judgement.name.KeyForm.TheVariants.{Plain, Certified}
use Rattle.publickey_login.specs.Signatures.{AreFlags, BySshd, ByTransport, HasFlags, IsLeft, IsNamed, Offer, Request, request_for}

abbrev requiring : Bool → Bool → Requirements
requiring touch verify = record { touch_required = touch; verify_required = verify }

abbrev key : Key
key = Ed25519 (replicate 32 0x03)

abbrev security_key : SecurityKey
security_key = record { key = replicate 32 0x03; application = codes "ssh:" }

-- A name that is told is the key's, and a certificate's for a certificate.
abbrev pub Named : Type 0
Named = IsNamed (Some (codes "ssh-ed25519")) key Plain
    × IsNamed (Some (codes "ssh-ed25519-cert-v01@openssh.com")) key Certified
    × ¬ IsNamed (Some (codes "ssh-ed25519-cert-v01@openssh.com")) key Plain
    × ¬ IsNamed (Some (codes "ssh-ed25519")) key Certified
    × ¬ IsNamed (Some (codes "sk-ssh-ed25519@openssh.com")) key Plain
    × IsNamed None key Plain × IsNamed None key Certified

-- PROTOCOL.u2f: 0x01 is a touch, and 0x04 a verified user. Who tells nothing is let in only where
-- nothing is required.
abbrev pub Flags : Type 0
Flags = AreFlags (requiring true false) (Some 0x01) × ¬ AreFlags (requiring true false) (Some 0x04)
    × AreFlags (requiring false true) (Some 0x04) × ¬ AreFlags (requiring false true) (Some 0x01)
    × AreFlags (requiring false false) None × ¬ AreFlags (requiring true false) None × ¬ AreFlags (requiring false true) None

-- A plain key has none, whatever is required.
abbrev pub Flagless : Type 0
Flagless = HasFlags key (requiring true true) None × HasFlags key (requiring true true) (Some 0x00)
    × ¬ HasFlags (SkEd25519 security_key) (requiring true false) None × ¬ HasFlags (SkEcdsa security_key) (requiring true false) None
    × HasFlags (SkEd25519 security_key) (requiring true false) (Some 0x01) × HasFlags (SkEcdsa security_key) (requiring true true) (Some 0x05)

abbrev offer : Option (List ℕ) → Offer
offer name = record { user = codes "alice"; algorithm = name; blob = hex "0000000b 7373682d65643235353139 00000020" ++ replicate 32 0x03 }

-- Nothing is left of what the transport or sshd has verified; sshd looks at flags itself. A request
-- leaves a question, and there is none without a name.
abbrev pub Left : Type 0
Left = IsLeft (offer None) (ByTransport None) (requiring true false) key Plain None
    × ¬ IsLeft (offer None) (ByTransport None) (requiring true false) (SkEd25519 security_key) Plain None
    × IsLeft (offer None) BySshd (requiring true false) (SkEd25519 security_key) Plain None
    × ¬ IsLeft (offer (Some (codes "ssh-rsa"))) BySshd (requiring false false) key Plain None
    × ((q : Option Question) → ¬ IsLeft (offer None) BySshd (requiring false false) key Plain (Some q))
    × ¬ IsLeft (offer None) (Request (hex "aabb") None (hex "")) (requiring false false) key Plain None
    × ((q : Option Question) → ¬ IsLeft (offer None) (Request (hex "aabb") None (hex "")) (requiring false false) key Plain (Some q))

-- What the client signs is what it offers, under the name that it tells, for that session and that host,
-- and for the service that starts after the login (RFC 4252, section 7; RFC 4254, section 1).
abbrev pub Signs : Type 0
Signs = (host : Option (List ℕ)) → request_for (offer None) (codes "ssh-ed25519") (hex "aabb") host
    ≡ record { session_id = hex "aabb"; user = codes "alice"; service = codes "ssh-connection"; algorithm = codes "ssh-ed25519"; public_key = hex "0000000b 7373682d65643235353139 00000020" ++ replicate 32 0x03; host_key = host }
