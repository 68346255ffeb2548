-- Worked examples: what clients sign, and both sides of each edge.
use Rattle.std.specs.Prelude.{◌≡◌, ℕ, List, [], ◌++◌, replicate, Option, Some, None, true, false, Ok, Err, codes}
use Rattle.sshkey_model.specs.CertificateExamples.{patched}
use Rattle.sshkey_model.specs.HexText.{hex}
use Rattle.sshkey_model.specs.Keys as keys
use Rattle.sshkey_model.specs.Names.{Nistp256, Nistp384, Nistp521, Sha256, Sha512, Algorithm, Dsa, Ecdsa, Ed25519, Rsa, SkEcdsa, SkEd25519, Other}
use Rattle.sshkey_model.specs.Parts.{flat}
use Rattle.sshkey_model.specs.Reading.{Label}
use Rattle.sshkey_model.specs.Signatures.{Signature}
use Rattle.sshkey_userauth.specs.Judgements.{flags_of, form_of, form_under, judged, key_from, lacking}
use Rattle.sshkey_userauth.specs.Requests.{UserauthRequest, userauth_request}
use Rattle.sshkey_userauth.specs.declared.judgement.Requirements.{Requirements}
use Rattle.sshkey_userauth.specs.declared.judgement.name.KeyForm.TheVariants.{Plain, Certified}
use Rattle.sshkey_userauth.specs.declared.refusal.UserauthRefusal.TheVariants as refusals
use Rattle.sshkey_userauth.specs.declared.refusal.UserauthRefusal.TheVariants.{Touch, Verification}

-- ---- bytes

abbrev pub request : Option (List ℕ) → UserauthRequest
request host_key = record { session_id = hex "aabb"; user = codes "u"; service = codes "s"; algorithm = codes "a"; public_key = hex "01"; host_key = host_key }

-- before the method, and after it
abbrev pub front : List ℕ
front = hex "00000002 aabb 32 00000001 75 00000001 73"

abbrev pub publickey : List ℕ
publickey = hex "00000009 7075626c69636b6579"

abbrev pub hostbound : List ℕ
hostbound = hex "00000023 7075626c69636b65792d686f7374626f756e642d763030406f70656e7373682e636f6d"

abbrev pub after : List ℕ
after = hex "01 00000001 61 00000001 01"

abbrev pub Methods : Type 0
Methods = (flat (userauth_request (request None)) ≡ front ++ publickey ++ after)
    × (flat (userauth_request (request (Some (hex "02")))) ≡ front ++ hostbound ++ after ++ hex "00000001 02")
    × (flat (userauth_request (request (Some []))) ≡ front ++ hostbound ++ after ++ hex "00000000")

-- ---- names

-- RFC 8332: the name says the hash; SHA-1 has none.
abbrev pub RsaNames : Type 0
RsaNames = (form_of (codes "rsa-sha2-512") (Rsa (Some Sha512)) ≡ Some Plain)
    × (form_of (codes "rsa-sha2-256") (Rsa (Some Sha512)) ≡ None)
    × (form_of (codes "rsa-sha2-512") (Rsa (Some Sha256)) ≡ None)
    × (form_of (codes "rsa-sha2-512-cert-v01@openssh.com") (Rsa (Some Sha512)) ≡ Some Certified)
    × (form_of (codes "rsa-sha2-256-cert-v01@openssh.com") (Rsa (Some Sha512)) ≡ None)
    × (form_of (codes "ssh-rsa") (Rsa (Some Sha512)) ≡ None)
    × (form_of (codes "ssh-rsa-cert-v01@openssh.com") (Rsa (Some Sha512)) ≡ None)
    × (form_of (codes "ssh-rsa") (Rsa None) ≡ None)

abbrev pub OtherNames : Type 0
OtherNames = (form_of (codes "ssh-ed25519") Ed25519 ≡ Some Plain)
    × (form_of (codes "ssh-ed25519-cert-v01@openssh.com") Ed25519 ≡ Some Certified)
    × (form_of (codes "sk-ssh-ed25519@openssh.com") Ed25519 ≡ None)
    × (form_of (codes "sk-ssh-ed25519-cert-v01@openssh.com") SkEd25519 ≡ Some Certified)
    × (form_of (codes "ecdsa-sha2-nistp384") (Ecdsa Nistp256) ≡ None)
    × (form_of (codes "ecdsa-sha2-nistp384") (Ecdsa Nistp384) ≡ Some Plain)
    × (form_of (codes "ssh-dss") Dsa ≡ None)

-- RFC 5656, section 6.2, and PROTOCOL.certkeys
abbrev pub CurveNames : Type 0
CurveNames = (form_of (codes "ecdsa-sha2-nistp256") (Ecdsa Nistp256) ≡ Some Plain)
    × (form_of (codes "ecdsa-sha2-nistp256-cert-v01@openssh.com") (Ecdsa Nistp256) ≡ Some Certified)
    × (form_of (codes "ecdsa-sha2-nistp384-cert-v01@openssh.com") (Ecdsa Nistp384) ≡ Some Certified)
    × (form_of (codes "ecdsa-sha2-nistp521") (Ecdsa Nistp521) ≡ Some Plain)
    × (form_of (codes "ecdsa-sha2-nistp521-cert-v01@openssh.com") (Ecdsa Nistp521) ≡ Some Certified)
    × (form_of (codes "ecdsa-sha2-nistp521-cert-v01@openssh.com") (Ecdsa Nistp256) ≡ None)

-- PROTOCOL.u2f names both of both kinds; a key that is not in hardware has others.
abbrev pub SecurityKeyNames : Type 0
SecurityKeyNames = (form_of (codes "sk-ecdsa-sha2-nistp256@openssh.com") SkEcdsa ≡ Some Plain)
    × (form_of (codes "sk-ecdsa-sha2-nistp256-cert-v01@openssh.com") SkEcdsa ≡ Some Certified)
    × (form_of (codes "sk-ssh-ed25519@openssh.com") SkEd25519 ≡ Some Plain)
    × (form_of (codes "sk-ssh-ed25519-cert-v01@openssh.com") SkEd25519 ≡ Some Certified)
    × (form_of (codes "ecdsa-sha2-nistp256") SkEcdsa ≡ None)
    × (form_of (codes "sk-ecdsa-sha2-nistp256@openssh.com") (Ecdsa Nistp256) ≡ None)
    × (form_of (codes "webauthn-sk-ecdsa-sha2-nistp256@openssh.com") SkEcdsa ≡ None)
    × (form_of (codes "key@example.org") (Other (codes "key@example.org")) ≡ None)

abbrev rsa : keys.Key
rsa = keys.Rsa (record { e = hex "010001"; n = hex "00c7" })

abbrev security_key : keys.SecurityKey
security_key = record { key = replicate 32 0x03; application = codes "ssh:" }

-- An RSA key signs under two names, each for itself and in certificates, and by none of them with
-- SHA-1. A key signs under no name of another curve or of a key that is not in hardware.
abbrev pub KeyNames : Type 0
KeyNames = (form_under (codes "rsa-sha2-256") rsa ≡ Some Plain)
    × (form_under (codes "rsa-sha2-512") rsa ≡ Some Plain)
    × (form_under (codes "rsa-sha2-256-cert-v01@openssh.com") rsa ≡ Some Certified)
    × (form_under (codes "rsa-sha2-512-cert-v01@openssh.com") rsa ≡ Some Certified)
    × (form_under (codes "ssh-rsa") rsa ≡ None)
    × (form_under (codes "ssh-rsa-cert-v01@openssh.com") rsa ≡ None)
    × (form_under (codes "ecdsa-sha2-nistp384") (keys.Ecdsa Nistp384 (hex "04")) ≡ Some Plain)
    × (form_under (codes "ecdsa-sha2-nistp256") (keys.Ecdsa Nistp384 (hex "04")) ≡ None)
    × (form_under (codes "ssh-ed25519-cert-v01@openssh.com") (keys.Ed25519 (replicate 32 0x03)) ≡ Some Certified)
    × (form_under (codes "ssh-ed25519") (keys.SkEd25519 security_key) ≡ None)
    × (form_under (codes "sk-ssh-ed25519@openssh.com") (keys.SkEd25519 security_key) ≡ Some Plain)
    × (form_under (codes "sk-ecdsa-sha2-nistp256@openssh.com") (keys.SkEcdsa security_key) ≡ Some Plain)
    × (form_under (codes "ssh-dss") (keys.Dsa (record { p = []; q = []; g = []; y = [] })) ≡ None)
    × (form_under (codes "key@example.org") (keys.Opaque (codes "key@example.org") []) ≡ None)

-- ---- flags (PROTOCOL.u2f)

abbrev pub touch : Requirements
touch = record { touch_required = true; verify_required = false }

abbrev pub verification : Requirements
verification = record { touch_required = false; verify_required = true }

abbrev pub both_required : Requirements
both_required = record { touch_required = true; verify_required = true }

abbrev pub Flags : Type 0
Flags = (lacking touch (Some 0x00) ≡ Err Touch)
    × (lacking touch (Some 0x01) ≡ Ok tt)
    × (lacking touch (Some 0x04) ≡ Err Touch)
    × (lacking verification (Some 0x01) ≡ Err Verification)
    × (lacking verification (Some 0x04) ≡ Ok tt)
    × (lacking both_required (Some 0x01) ≡ Err Verification)
    × (lacking both_required (Some 0x04) ≡ Err Touch)
    × (lacking both_required (Some 0x05) ≡ Ok tt)
    × (lacking both_required (Some 0xc5) ≡ Ok tt)
    × (lacking both_required None ≡ Ok tt)
    × (lacking (record { touch_required = false; verify_required = false }) (Some 0x00) ≡ Ok tt)

-- one of Ed25519 or ECDSA, the flags, and a counter
abbrev sk_ed25519 : List ℕ → Signature
sk_ed25519 flags = record { algorithm = SkEd25519; blob = replicate 64 0x03 ++ flags ++ hex "00000407" }

abbrev sk_ecdsa : List ℕ → Signature
sk_ecdsa flags = record { algorithm = SkEcdsa; blob = hex "00000001 03 00000001 07" ++ flags ++ hex "00000407" }

-- The flags follow the signature proper, before the counter; those of other keys have none.
abbrev pub FlagPlaces : Type 0
FlagPlaces = (flags_of (sk_ed25519 (hex "01")) ≡ Some 0x01)
    × (flags_of (sk_ed25519 (hex "05")) ≡ Some 0x05)
    × (flags_of (sk_ecdsa (hex "04")) ≡ Some 0x04)
    × (flags_of (record { algorithm = Ed25519; blob = replicate 64 0x03 }) ≡ None)
    × (flags_of (record { algorithm = Ecdsa Nistp256; blob = hex "00000001 03 00000001 07" }) ≡ None)
    × (flags_of (record { algorithm = Rsa (Some Sha512); blob = replicate 256 0x03 }) ≡ None)

-- ---- the verdict

abbrev of_service : List ℕ → List ℕ → UserauthRequest
of_service service algorithm = record { session_id = hex "aabb"; user = codes "u"; service = service; algorithm = algorithm; public_key = hex "01"; host_key = None }

abbrev sk_name : List ℕ
sk_name = codes "sk-ssh-ed25519@openssh.com"

-- The service is the one that starts after the login (RFC 4252, section 5; RFC 4254, section 1), and
-- not the one that the login is part of. It is asked first, then the name, and then the flags.
abbrev pub Verdicts : Type 0
Verdicts = (judged (of_service (codes "ssh-connection") sk_name) touch (sk_ed25519 (hex "01")) ≡ Ok Plain)
    × (judged (of_service (codes "ssh-userauth") sk_name) touch (sk_ed25519 (hex "01")) ≡ Err refusals.Service)
    × (judged (of_service (codes "ssh-connection") (codes "sk-ssh-ed25519-cert-v01@openssh.com")) touch (sk_ed25519 (hex "01")) ≡ Ok Certified)
    × (judged (of_service (codes "ssh-connection") (codes "ssh-ed25519")) touch (sk_ed25519 (hex "01")) ≡ Err refusals.Algorithm)
    × (judged (of_service (codes "ssh-connection") sk_name) touch (sk_ed25519 (hex "04")) ≡ Err Touch)
    × (judged (of_service (codes "ssh-connection") sk_name) verification (sk_ed25519 (hex "01")) ≡ Err Verification)
    × (judged (of_service (codes "ssh-userauth") (codes "ssh-ed25519")) touch (sk_ed25519 (hex "00")) ≡ Err refusals.Service)
    × (judged (of_service (codes "ssh-connection") (codes "ssh-ed25519")) touch (sk_ed25519 (hex "00")) ≡ Err refusals.Algorithm)

-- ---- the key

abbrev pub point : List ℕ
point = hex "476e79e7d12f6c8b97364fe2dc20c41eebc015c8786fcaba028da08d1832bcd6"

abbrev key_of_point : List ℕ
key_of_point = hex "0000000b 7373682d65643235353139 00000020" ++ point

-- The key stands alone, or in a certificate, whose own key it is and not that which signed it.
abbrev pub KeyForms : Type 0
KeyForms = (key_from Plain key_of_point ≡ Ok (keys.Ed25519 point))
    × (key_from Certified (patched 76 point) ≡ Ok (keys.Ed25519 point))
    × (key_from Certified key_of_point ≡ Err Label)
