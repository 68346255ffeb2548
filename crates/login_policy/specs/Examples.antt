-- Worked examples of who may log in with a certificate, on both sides of each edge: a login that is
-- let in, and the same with one thing changed (PROTOCOL.certkeys; auth2-pubkey.c, sshkey.c and
-- auth-options.c of OpenSSH).
use Rattle.std.specs.Prelude.{◌≡◌, ℕ, ◌-◌, ◌^◌, List, [], ◌∷◌, ◌++◌, true, false, Some, None, codes, option_map, replicate, string_bytes}
use Rattle.std.specs.declared.net.ip_addr.IpAddr.TheVariants.{V4}
use Rattle.sshkey_model.specs.CertificateExamples.{authority}
use Rattle.sshkey_model.specs.Certificates.{Certificate, Host, SignedFields, User, forever}
use Rattle.sshkey_model.specs.Fingerprints.{fingerprint}
use Rattle.sshkey_model.specs.KeyExamples.{ed25519_key, rsa_key}
use Rattle.sshkey_model.specs.Keys.{Dsa, Key, Ecdsa, Ed25519, Rsa, Opaque, SkEd25519}
use Rattle.sshkey_model.specs.Names.{Algorithm, Sha256, Nistp256}
use Rattle.sshkey_model.specs.Options.{CertificateOption}
use Rattle.login_policy.specs.KnownOptions.{IsKnownOption, IsPlainExtension}
use Rattle.login_policy.specs.Logins.{IsGrantOf, IsUnbound, LetsIn, Login, AreForUser, are_accepted, unasked}
use Rattle.login_policy.specs.declared.client.Client.{Client}
use Rattle.login_policy.specs.declared.client.Client.TheVariants.{At, LeftToCaller, Unknown}
use Rattle.login_policy.specs.declared.grant.Grant.{Grant}
use Rattle.sshkey_cert.specs.declared.certificate.refusal.CertificateRefusal.TheVariants.{Principal, Signature, Window}
use Rattle.login_policy.specs.Refusals.{RefusesCertificate}
use Rattle.login_policy.specs.declared.refusal.LoginRefusal.{LoginRefusal}
use Rattle.login_policy.specs.declared.refusal.LoginRefusal.TheVariants.{Elsewhere, Invalid}

-- ---- a login that is let in

abbrev pub option : List ℕ → List ℕ → CertificateOption
option name value = record { name = name; value = value }

abbrev pub fields : SignedFields
fields = record {
  nonce = [];
  key = ed25519_key;
  serial = 7;
  certificate_type = User;
  key_id = codes "id";
  valid_principals = codes "alice" ∷ codes "bob" ∷ [];
  valid_after = 100;
  valid_before = 200;
  critical_options = [];
  extensions = [];
  reserved = [];
  signature_key = authority;
}

abbrev pub of_fields : SignedFields → Certificate
of_fields f = record { signed = f; signature = record { algorithm = Algorithm.Ed25519; blob = [] } }

abbrev pub login : Login
login = record {
  accepts = λ q. true;
  revokes = λ key identity. false;
  authorities = fingerprint Sha256 authority ∷ [];
  time = 100;
  user = codes "alice";
  blob = [];
  least_rsa_bits = 0;
  client = Unknown;
}

abbrev pub IsLetIn : Login → SignedFields → Type 0
IsLetIn l f = LetsIn l (of_fields f)

abbrev pub dsa_key : Key
dsa_key = Dsa (record { p = 0x17 ∷ []; q = 0x0b ∷ []; g = 4 ∷ []; y = 8 ∷ [] })

-- Another type, and a key id with a zero byte; a DSA key, and an RSA key of 8 bits.
abbrev pub Fields : Type 0
Fields = IsLetIn login fields
    × ¬ IsLetIn login (record fields { certificate_type = Host })
    × ¬ IsLetIn login (record fields { key_id = 0x69 ∷ 0 ∷ 0x64 ∷ [] })
    × ¬ IsLetIn login (record fields { key = dsa_key })
    × ¬ IsLetIn login (record fields { key = rsa_key })

-- The names of users are compared with case. A certificate that lists nobody is for nobody, and an
-- empty name is no user's, also if it stands there.
abbrev pub Users : Type 0
Users = IsLetIn (record login { user = codes "bob" }) fields
    × ¬ IsLetIn (record login { user = codes "carol" }) fields
    × ¬ IsLetIn (record login { user = codes "Alice" }) fields
    × ¬ IsLetIn login (record fields { valid_principals = [] })
    × ¬ IsLetIn (record login { user = [] }) (record fields { valid_principals = [] ∷ [] })
    × IsLetIn login (record fields { valid_principals = codes "alice" ∷ [] ∷ [] })
    × ¬ IsLetIn login (record fields { valid_principals = codes "alice" ∷ (0 ∷ []) ∷ [] })
    × ¬ AreForUser (codes "alice") []
    × ¬ AreForUser (codes "alice") (replicate 257 (codes "alice"))

-- Another authority, a signature that does not count, and a revoked certificate; and times.
abbrev pub Trust : Type 0
Trust = ¬ IsLetIn (record login { authorities = [] }) fields
    × ¬ IsLetIn (record login { accepts = λ q. false }) fields
    × ¬ IsLetIn (record login { revokes = λ key identity. true }) fields
    × ¬ IsLetIn (record login { time = 99 }) fields
    × IsLetIn (record login { time = 199 }) fields
    × ¬ IsLetIn (record login { time = 200 }) fields
    × IsLetIn (record login { time = 2 ^ 63 - 1 }) (record fields { valid_before = forever })
    × ¬ IsLetIn (record login { time = 2 ^ 63 }) (record fields { valid_before = forever })

-- ---- where the client is

abbrev pub at : ℕ → Client
at first = At (V4 (record { octets = first ∷ 1 ∷ 2 ∷ 3 ∷ [] }))

abbrev pub listed : SignedFields
listed = record fields { critical_options = option (codes "source-address") (codes "10.0.0.0/8") ∷ [] }

-- From anywhere without a list. With one from nowhere if no address is known, and from anywhere if
-- the caller judges.
abbrev pub Clients : Type 0
Clients = IsLetIn (record login { client = at 11 }) fields
    × IsLetIn (record login { client = LeftToCaller }) fields
    × ¬ IsLetIn login listed
    × IsLetIn (record login { client = LeftToCaller }) listed
    × ¬ IsLetIn (record login { client = LeftToCaller }) (record fields { critical_options = option (codes "source-address") [] ∷ [] })
    × IsLetIn (record login { client = at 10 }) listed
    × ¬ IsLetIn (record login { client = at 11 }) listed

-- ---- options

abbrev pub Options : Type 0
Options = IsKnownOption (option (codes "force-command") (codes "ls"))
    × ¬ IsKnownOption (option (codes "force-command") [])
    × ¬ IsKnownOption (option (codes "force-command") (0x6c ∷ 0 ∷ []))
    × ¬ IsKnownOption (option (codes "Force-command") (codes "ls"))
    × IsKnownOption (option (codes "verify-required") [])
    × ¬ IsKnownOption (option (codes "verify-required") (codes "x"))
    × ¬ IsKnownOption (option (codes "permit-pty") [])
    × ¬ IsLetIn login (record fields { critical_options = option (codes "permit-pty") [] ∷ [] })

abbrev pub Extensions : Type 0
Extensions = IsPlainExtension (option (codes "permit-X11-forwarding") [])
    × ¬ IsPlainExtension (option (codes "permit-X11-forwarding") (codes "x"))
    × ¬ IsPlainExtension (option (codes "permit-agent-forwarding") (codes "x"))
    × ¬ IsPlainExtension (option (codes "permit-port-forwarding") (codes "x"))
    × ¬ IsPlainExtension (option (codes "permit-pty") (codes "x"))
    × ¬ IsPlainExtension (option (codes "permit-user-rc") (codes "x"))
    × ¬ IsPlainExtension (option (codes "no-touch-required") (codes "x"))
    × IsPlainExtension (option (codes "Permit-pty") (codes "x"))
    × ¬ IsPlainExtension (option (codes "permit-pty" ++ (0 ∷ [])) [])
    × ¬ IsLetIn login (record fields { extensions = option (codes "permit-pty") (codes "x") ∷ [] })

-- ---- what is granted

abbrev pub Grants : SignedFields → (Grant → Type 0) → Type 0
Grants f Holds = (g : Grant) → IsGrantOf (of_fields f) g → Holds g

-- Without options: no command, no verification, and somebody has to touch a security key. Each
-- option says the one thing.
abbrev pub Granted : Type 0
Granted = Grants fields (λ g. (option_map string_bytes g.force_command ≡ None) × (g.verify_required ≡ false) × (g.touch_required ≡ true) × (g.serial ≡ 7))
    × Grants (record fields { critical_options = option (codes "force-command") (codes "ls") ∷ [] }) (λ g. (option_map string_bytes g.force_command ≡ Some (codes "ls")) × (g.verify_required ≡ false) × (g.touch_required ≡ true))
    × Grants (record fields { critical_options = option (codes "verify-required") [] ∷ [] }) (λ g. (option_map string_bytes g.force_command ≡ None) × (g.verify_required ≡ true) × (g.touch_required ≡ true))
    × Grants (record fields { extensions = option (codes "no-touch-required") [] ∷ [] }) (λ g. g.touch_required ≡ false)
    × Grants (record fields { extensions = option (codes "permit-pty") [] ∷ [] }) (λ g. g.touch_required ≡ true)

-- Bound by a command, and by verification.
abbrev pub Unbound : Type 0
Unbound = ((g : Grant) → g.force_command ≡ None → g.verify_required ≡ false → IsUnbound g)
    × ((g : Grant) → ¬ (g.force_command ≡ None) → ¬ IsUnbound g)
    × ((g : Grant) → g.verify_required ≡ true → ¬ IsUnbound g)

-- Worked examples: who may sign for which key, on both sides of each edge.

abbrev ed25519 : Key
ed25519 = Ed25519 (replicate 32 1)

abbrev dsa : Key
dsa = Dsa (record { p = 7 ∷ []; q = 3 ∷ []; g = 2 ∷ []; y = 4 ∷ [] })

abbrev rsa : List ℕ → Key
rsa n = Rsa (record { e = 3 ∷ []; n = n })

-- the powers of two of that many bits, as RFC 4251 writes them
abbrev of_1023_bits : List ℕ
of_1023_bits = 0x40 ∷ replicate 127 0

abbrev of_1024_bits : List ℕ
of_1024_bits = 0 ∷ 0x80 ∷ replicate 127 0

-- An authority has any kind but DSA and private use, and 1,024 bits of RSA, whatever its users' have.
abbrev pub Authorities : Type 0
Authorities = (are_accepted 0 ed25519 ed25519 ≡ true)
    × (are_accepted 0 ed25519 dsa ≡ false)
    × (are_accepted 0 dsa ed25519 ≡ false)
    × (are_accepted 0 ed25519 (Opaque (codes "key@example.org") []) ≡ false)
    × (are_accepted 0 ed25519 (Ecdsa Nistp256 (4 ∷ replicate 64 1)) ≡ true)
    × (are_accepted 0 ed25519 (Ecdsa Nistp256 (2 ∷ replicate 64 1)) ≡ false)
    × (are_accepted 0 ed25519 (SkEd25519 (record { key = replicate 32 1; application = codes "ssh:" })) ≡ true)
    × (are_accepted 0 ed25519 (SkEd25519 (record { key = replicate 32 1; application = codes "ssh:\0" })) ≡ false)
    × (are_accepted 0 ed25519 (rsa of_1023_bits) ≡ false)
    × (are_accepted 1025 ed25519 (rsa of_1024_bits) ≡ true)
    × (are_accepted 1024 (rsa of_1024_bits) (rsa of_1024_bits) ≡ true)
    × (are_accepted 1025 (rsa of_1024_bits) (rsa of_1024_bits) ≡ false)

-- Worked examples of what is pending, and of what is refused first, on both sides of each edge: a login
-- that is let in, and the same with one thing changed. The verifier says no (sshkey.c and
-- auth2-pubkey.c of OpenSSH).

abbrev pub forged : Login
forged = record login { accepts = λ q. false }

abbrev pub Pends : Login → SignedFields → Type 0
Pends l f = LetsIn (unasked l) (of_fields f)

-- What a verifier would say is not asked of what is pending, and all else is.
abbrev pub Pendings : Type 0
Pendings = Pends login fields
    × Pends forged fields
    × ¬ IsLetIn forged fields
    × ¬ Pends (record forged { time = 200 }) fields
    × ¬ Pends (record forged { authorities = [] }) fields
    × ¬ Pends (record forged { revokes = λ key identity. true }) fields
    × ¬ Pends forged listed

abbrev pub IsRefusedFor : LoginRefusal → Login → SignedFields → Type 0
IsRefusedFor r l f = RefusesCertificate l (of_fields f) r

-- The signature is said last.
abbrev pub Order : Type 0
Order = IsRefusedFor (Invalid Signature) forged fields
    × IsRefusedFor (Invalid Window) (record forged { time = 99 }) fields
    × IsRefusedFor (Invalid Window) (record forged { time = 200 }) fields
    × IsRefusedFor (Invalid Principal) (record forged { user = codes "carol" }) fields
    × IsRefusedFor Elsewhere forged listed
