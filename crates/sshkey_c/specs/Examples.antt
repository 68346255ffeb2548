-- Worked examples: what the terms of a login permit (sshd(8), "AUTHORIZED_KEYS FILE FORMAT").
use Rattle.std.specs.Prelude.{◌≡◌, ◌-◌, ◌^◌, [], ◌∷◌, ◌++◌, true, Some, None, codes, ℕ, List, replicate, Bool, false}
use Rattle.login_terms.specs.Options.{Terms, no_terms, none_permitted, terms_of}
use Rattle.login_terms.specs.Values.{HostAndPort}
use Rattle.publickey_login.specs.declared.grant.PublickeyGrant.{PublickeyGrant}
use Rattle.sshkey_calls.specs.Rooms.{IsPlaced}
use Rattle.sshkey_c.specs.Grants.{ArePlaced, grant_bytes, key_id_of, no_part, permit_strings, permits_of, span_of, strings, to_listen, to_open, tunnel_of, HasCommand, asked_for}
use Rattle.sshkey_c.specs.declared.grant.GrantParts.{GrantParts}
use Rattle.publickey_login.specs.Sources.{Files, InCertificate, Unreadable}
use Rattle.publickey_login.specs.Signatures.{BySshd, ByTransport, Request}
use Rattle.publickey_login.specs.declared.pending_login.Answers.{Answers}
use Rattle.sshkey_model.specs.HexText.{hex}
use Rattle.sshkey_model.specs.Keys as keys
use Rattle.sshkey_model.specs.Names.{Algorithm}
use Rattle.sshkey_model.specs.Verification.{Question}
use Rattle.sshkey_c.specs.Verdicts.{ticket_bytes, answers_in}
use Rattle.sshkey_c.specs.Logins.{bound_key, named_algorithm, principals_from, signed_in}
use Rattle.sshkey_c.specs.declared.login.SignedParts.{SignedParts}
use Rattle.login_policy.specs.declared.refusal.LoginRefusal.TheVariants as policy
use Rattle.publickey_login.specs.declared.grant.Source.TheVariants as source
use Rattle.publickey_login.specs.declared.refusal.PublickeyRefusal.TheVariants as refusal
use Rattle.sshkey_base.specs.declared.certificate.field.Field.TheVariants.{CriticalOptions}
use Rattle.sshkey_base.specs.declared.encoding.Error.TheVariants.{Length}
use Rattle.sshkey_base.specs.declared.error.Error.TheVariants.{CertificateFieldInvalid, Encoding}
use Rattle.sshkey_cert.specs.declared.certificate.refusal.CertificateRefusal.TheVariants as certificate
use Rattle.sshkey_userauth.specs.declared.refusal.UserauthRefusal.TheVariants as signature
use Rattle.user_keys.specs.declared.refusal.Reason.TheVariants as reasons
use Rattle.sshkey_c.specs.Refusals.{refusal_of, said}
use Rattle.sshkey_c.specs.declared.refusal.Refusal.{Refusal}

abbrev restricted : Terms
restricted = record no_terms { permissions = none_permitted }

abbrev db : HostAndPort
db = record { host = codes "db"; port = Some 5432 }

-- Without options all; with `restrict` any command, and no bit for any device. A device is the only one.
abbrev pub Permitted : Type 0
Permitted = (permits_of no_terms ≡ 959) × (permits_of restricted ≡ 160) × (permits_of (record no_terms { tunnel = Some 0 }) ≡ 447)
    × (permits_of (record restricted { command = Some [] }) ≡ 128) × (permits_of (record restricted { permissions = record none_permitted { tunnels = true } }) ≡ 928)

-- Anywhere, where forwarding is permitted and no place is named; and nowhere, where it is forbidden,
-- whatever is named.
abbrev pub Placed : Type 0
Placed = (permit_strings (to_open no_terms) ≡ 0 ∷ 0 ∷ 0 ∷ 1 ∷ 0x2a ∷ 0 ∷ 0 ∷ 0 ∷ 0 ∷ [])
    × (permit_strings (to_open (record no_terms { permit_open = db ∷ [] })) ≡ 0 ∷ 0 ∷ 0 ∷ 2 ∷ 0x64 ∷ 0x62 ∷ 0 ∷ 0 ∷ 0 ∷ 2 ∷ 0x15 ∷ 0x38 ∷ [])
    × (to_open restricted ≡ []) × (to_open (record restricted { permit_open = db ∷ [] }) ≡ []) × (to_listen (record restricted { permit_listen = db ∷ [] }) ≡ [])
    × (to_listen (record no_terms { permit_listen = db ∷ [] }) ≡ db ∷ [])

-- A line counts at any second where it has no last one. A device is told where tunnels are permitted.
abbrev pub Bounds : Type 0
Bounds = (span_of None ≡ record { first = 2 ^ 64 - 1; last = 2 ^ 64 - 1 }) × (span_of (Some (record { first = 7; last = 8 })) ≡ record { first = 7; last = 8 })
    × (tunnel_of (record no_terms { tunnel = Some 7 }) ≡ 7) × (tunnel_of no_terms ≡ 0) × (tunnel_of (record restricted { tunnel = Some 7 }) ≡ 0)

-- ---- in the room

abbrev pub granted : Terms
granted = record no_terms { command = Some (codes "date"); permit_open = db ∷ []; environment = codes "A=b" ∷ [] }

-- The command, the key id, where ports may be forwarded, where may be listened, and the variables: one
-- after the other.
abbrev pub LaidOut : Type 0
LaidOut = (g : PublickeyGrant) (a : GrantParts) → terms_of g.user.terms ≡ granted → key_id_of g.user.certified ≡ codes "id" → ArePlaced g a →
    (grant_bytes g ≡ codes "dateid" ++ (permit_strings (db ∷ []) ++ (0 ∷ 0 ∷ 0 ∷ 1 ∷ 0x2a ∷ 0 ∷ 0 ∷ 0 ∷ 0 ∷ 0 ∷ 0 ∷ 0 ∷ 3 ∷ codes "A=b")))
    × IsPlaced 0 (codes "date") a.force_command × IsPlaced 4 (codes "id") a.key_id × IsPlaced 6 (permit_strings (db ∷ [])) a.permit_open
    × IsPlaced 18 (0 ∷ 0 ∷ 0 ∷ 1 ∷ 0x2a ∷ 0 ∷ 0 ∷ 0 ∷ 0 ∷ []) a.permit_listen × IsPlaced 27 (strings (codes "A=b" ∷ [])) a.environment
    × (a.length ≡ 34) × (a.permits ≡ 927)

-- The command that is forced is among the bytes, and all of it; the bit says where none is.
abbrev pub Forced : Type 0
Forced = (a : GrantParts) → HasCommand no_terms (record a { permits = 959; force_command = no_part }) []
    × HasCommand granted (record a { permits = 927; force_command = record { start = 1; length = 4 } }) (codes "(date)")
    × ¬ HasCommand granted (record a { permits = 927; force_command = record { start = 1; length = 3 } }) (codes "(date)")
    × ¬ HasCommand granted (record a { permits = 927; force_command = record { start = 1; length = 4 } }) (codes "(dat")
    × ¬ HasCommand granted (record a { permits = 959; force_command = record { start = 1; length = 4 } }) (codes "(date)")
    × (asked_for 0 (codes "ls") ≡ None) × (asked_for 1 [] ≡ Some []) × (asked_for 2 (codes "ls") ≡ Some (codes "ls"))

-- Worked examples: what the numbers of a caller say of a login.

abbrev answers : Bool → Bool → Answers
answers authority client = record { authority = authority; client = client }

-- Each bit says of its own question that the answer was yes, and others say nothing.
abbrev pub Answered : Type 0
Answered = (answers_in 0 ≡ answers false false) × (answers_in 1 ≡ answers true false) × (answers_in 2 ≡ answers false true)
    × (answers_in 3 ≡ answers true true) × (answers_in 4 ≡ answers false false) × (answers_in 6 ≡ answers false true)

-- Neither 0 nor 3 tells whom authorities let in; a name of no bytes is not told; and a host key is
-- bound by each number but 0.
abbrev pub Told : Type 0
Told = (principals_from 0 [] ≡ None) × (principals_from 1 (Unreadable ∷ []) ≡ Some InCertificate) × (principals_from 2 (Unreadable ∷ []) ≡ Some (Files (Unreadable ∷ []))) × (principals_from 3 [] ≡ None)
    × (named_algorithm [] ≡ None) × (named_algorithm (codes "rsa-sha2-512") ≡ Some (codes "rsa-sha2-512"))
    × (bound_key 0 (codes "k") ≡ None) × (bound_key 1 (codes "k") ≡ Some (codes "k")) × (bound_key 2 [] ≡ Some [])

-- Nobody has seen the signature by 0 and by 5. The host key counts with 1 alone, and flags with 3.
abbrev pub Seen : Type 0
Seen = (s : SignedParts) → (signed_in (record s { how = 0 }) ≡ None)
    × (signed_in (record s { how = 1; has_host_key = 0 }) ≡ Some (Request s.session_id.now None s.signature.now))
    × (signed_in (record s { how = 1; has_host_key = 1 }) ≡ Some (Request s.session_id.now (Some s.host_key.now) s.signature.now))
    × (signed_in (record s { how = 2; flags = 5 }) ≡ Some (ByTransport None)) × (signed_in (record s { how = 3; flags = 5 }) ≡ Some (ByTransport (Some 5)))
    × (signed_in (record s { how = 4; has_host_key = 1 }) ≡ Some BySshd) × (signed_in (record s { how = 5 }) ≡ None)

-- ---- the ticket

abbrev about : List ℕ → List ℕ → Question
about message blob = record { algorithm = Algorithm.Ed25519; key = keys.Ed25519 (replicate 32 0x03); message = message; blob = blob }

abbrev key_bytes : List ℕ
key_bytes = hex "0000000b 7373682d65643235353139 00000020" ++ replicate 32 0x03

-- The algorithm and the lengths, of the authority's question and then of the client's, stand before the
-- bytes. So it is another ticket where the other signs, and where a byte of the message is one of the
-- signature.
abbrev pub Tickets : Type 0
Tickets = (ticket_bytes (record { authority = None; client = None }) ≡ replicate 56 0)
    × (ticket_bytes (record { authority = Some (about (codes "m") (codes "sig")); client = None })
    ≡ hex "00000005 0000000000000033 0000000000000001 0000000000000003" ++ (replicate 28 0 ++ (key_bytes ++ codes "msig")))
    × (ticket_bytes (record { authority = None; client = Some (about (codes "m") (codes "sig")) })
    ≡ replicate 28 0 ++ (hex "00000005 0000000000000033 0000000000000001 0000000000000003" ++ (key_bytes ++ codes "msig")))
    × (ticket_bytes (record { authority = None; client = Some (about (codes "ms") (codes "ig")) })
    ≡ replicate 28 0 ++ (hex "00000005 0000000000000033 0000000000000002 0000000000000002" ++ (key_bytes ++ codes "msig")))

-- Worked examples: the numbers of why a login is refused, and by which line of which text.

abbrev by_line : ℕ → ℕ → ℕ → ℕ → Refusal
by_line number from text line = record { number = number; source = from; text = text; line = line }

-- A line that refuses says why, and is named by its text and its source. A text that could not be read
-- has no line.
abbrev pub ByLines : Type 0
ByLines = (refusal_of 56 (refusal.NotAllowed (source.AuthorizedKeys 2) 3 reasons.Expired) ≡ by_line 91 1 2 3)
    × (refusal_of 56 (refusal.NotAllowed (source.Principals 1) 4 reasons.MisplacedOption) ≡ by_line 92 3 1 4)
    × (refusal_of 56 (refusal.NotAllowed (source.Command 0) 1 reasons.Elsewhere) ≡ by_line 93 4 0 1)
    × (refusal_of 56 (refusal.NotAllowed (source.AuthorizedKeys 0) 7 reasons.Command) ≡ by_line 94 1 0 7)
    × (refusal_of 56 (refusal.NotAllowed (source.AuthorizedKeys 0) 7 reasons.Principals) ≡ by_line 95 1 0 7)
    × (refusal_of 56 (refusal.NotAllowed source.Authority 0 reasons.Expired) ≡ by_line 91 2 0 0)
    × (refusal_of 56 (refusal.Unclear (source.Command 5) 6) ≡ by_line 96 4 5 6)
    × (refusal_of 56 (refusal.Unreadable (source.Principals 5)) ≡ by_line 98 3 5 0)
    × (refusal_of 56 refusal.NotListed ≡ said 90)

-- Only what is revoked has the number that is given. A certificate's is not the client's signature.
abbrev pub ByKeys : Type 0
ByKeys = (refusal_of 56 refusal.Revoked ≡ said 56) × (refusal_of 58 refusal.Revoked ≡ said 58)
    × (refusal_of 58 (refusal.Certificate policy.Revoked) ≡ said 58) × (refusal_of 56 (refusal.NoKey (Encoding Length)) ≡ said 13)
    × (refusal_of 56 refusal.UnacceptedKey ≡ said 59) × (refusal_of 56 (refusal.Certificate policy.UnacceptedKey) ≡ said 59)
    × (refusal_of 56 (refusal.Certificate policy.NotNormalForm) ≡ said 70)
    × (refusal_of 56 (refusal.Certificate (policy.Certificate (CertificateFieldInvalid CriticalOptions))) ≡ said 73)
    × (refusal_of 56 (refusal.Certificate (policy.Invalid certificate.Signature)) ≡ said 30)
    × (refusal_of 56 (refusal.Certificate (policy.Invalid certificate.Authority)) ≡ said 31)
    × (refusal_of 56 (refusal.Certificate (policy.Invalid certificate.Window)) ≡ said 33)
    × (refusal_of 56 (refusal.Certificate (policy.Invalid certificate.Principal)) ≡ said 34)
    × (refusal_of 56 (refusal.Certificate policy.Elsewhere) ≡ said 57)
    × (refusal_of 56 refusal.Memory ≡ said 1) × (refusal_of 56 (refusal.Certificate policy.Memory) ≡ said 1)

-- What is wrong with the client's signature, and with its flags.
abbrev pub BySignatures : Type 0
BySignatures = (refusal_of 56 refusal.NotSigned ≡ said 84) × (refusal_of 56 refusal.NoFlags ≡ said 85)
    × (refusal_of 56 (refusal.NoSignature (Encoding Length)) ≡ said 86) × (refusal_of 56 refusal.TooLong ≡ said 13)
    × (refusal_of 56 refusal.Algorithm ≡ said 81) × (refusal_of 56 (refusal.Signature signature.Algorithm) ≡ said 81)
    × (refusal_of 56 (refusal.Signature signature.SignedBytes) ≡ said 80) × (refusal_of 56 (refusal.Signature signature.Service) ≡ said 80)
    × (refusal_of 56 (refusal.Signature signature.Touch) ≡ said 82) × (refusal_of 56 (refusal.Signature signature.Verification) ≡ said 83)
    × (refusal_of 56 (refusal.Signature (signature.Key (Encoding Length))) ≡ said 13) × (refusal_of 56 (refusal.Signature signature.Memory) ≡ said 1)
