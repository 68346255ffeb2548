-- Worked examples of who is let in by what, on both sides of each edge (sshd_config(5);
-- auth2-pubkey.c and auth2-pubkeyfile.c of OpenSSH).
use Rattle.std.specs.Prelude.{◌≡◌, ℕ, List, [], ◌∷◌, Bool, true, false, Some, None, codes, Option}
use Rattle.std.specs.declared.net.ip_addr.IpAddr.{IpAddr}
use Rattle.login_policy.specs.Examples.{fields, of_fields, dsa_key}
use Rattle.login_policy.specs.declared.client.Client.TheVariants.{At, LeftToCaller, Unknown}
use Rattle.login_terms.specs.Options.{all_permitted, no_terms}
use Rattle.sshkey_model.specs.CertificateExamples.{authority}
use Rattle.sshkey_model.specs.Certificates.{Certificate}
use Rattle.sshkey_model.specs.Fingerprints.{fingerprint}
use Rattle.sshkey_model.specs.Names.{Sha256}
use Rattle.sshkey_model.specs.Verification.{Question}
use Rattle.sshkey_userauth.specs.declared.judgement.Requirements.{Requirements}
use Rattle.publickey_login.specs.Grants.{IsAnswered, required_of, GrantsCertificate, GrantsKey, IsLogin, IsPending, MayOffer}
use Rattle.publickey_login.specs.Sources.{Files, InCertificate, Login, Principals, Read, Text, Trusted, Unreadable, address_of, client_known, client_seen, ArePassed, Found, IsOfFirst, AuthorityGoesOn, IsCertificateSource, IsKeySource, IsListed, IsOfAuthority, counted_in, own_terms, AuthorityLine, IsFoundBy, KeyLine, RefusesBy, PrincipalsGoOn}
use Rattle.publickey_login.specs.Signatures.{BySshd, ByTransport, Request}
use Rattle.publickey_login.specs.declared.grant.PublickeyGrant.{PublickeyGrant}
use Rattle.publickey_login.specs.declared.grant.Source.TheVariants as source
use Rattle.sshkey_model.specs.Keys.{Key}
use Rattle.user_keys.specs.UserLogins.{UserLogin}

-- ---- texts

abbrev Lets : List ℕ → Type 0
Lets text = text ≡ codes "lets"

abbrev Passes : List ℕ → Type 0
Passes text = text ≡ codes "passes"

-- The first that is not passed over counts, and none after one that neither lets in nor is passed
-- over, or could not be read.
abbrev pub FirstTexts : Type 0
FirstTexts = IsOfFirst Lets Passes (Read (codes "lets") ∷ []) 0
    × ¬ IsOfFirst Lets Passes [] 0
    × IsOfFirst Lets Passes (Read (codes "passes") ∷ Read (codes "lets") ∷ []) 1
    × ¬ IsOfFirst Lets Passes (Read (codes "lets") ∷ Read (codes "lets") ∷ []) 1
    × ¬ IsOfFirst Lets Passes (Read (codes "unclear") ∷ Read (codes "lets") ∷ []) 1
    × ¬ IsOfFirst Lets Passes (Unreadable ∷ Read (codes "lets") ∷ []) 0
    × ¬ IsOfFirst Lets Passes (Unreadable ∷ Read (codes "lets") ∷ []) 1
    × ¬ IsOfFirst Lets Passes (Read (codes "passes") ∷ Read (codes "passes") ∷ []) 1

abbrev pub PassedTexts : Type 0
PassedTexts = ArePassed Passes []
    × ArePassed Passes (Read (codes "passes") ∷ Read (codes "passes") ∷ [])
    × ¬ ArePassed Passes (Read (codes "passes") ∷ Read (codes "lets") ∷ [])
    × ¬ ArePassed Passes (Read (codes "passes") ∷ Unreadable ∷ [])

-- ---- where the client is

-- What is left to the caller is left to sshd alone.
abbrev pub Places : Type 0
Places = ((a : IpAddr) → client_known (At a) ≡ At a) × (client_known Unknown ≡ Unknown) × (client_known LeftToCaller ≡ Unknown)
    × (client_seen BySshd LeftToCaller ≡ LeftToCaller)
    × (client_seen (ByTransport None) LeftToCaller ≡ Unknown)
    × ((s : List ℕ) → client_seen (Request s None s) LeftToCaller ≡ Unknown)
    × ((a : IpAddr) → client_seen BySshd (At a) ≡ At a)
    × ((a : IpAddr) → address_of (At a) ≡ Some a) × (address_of Unknown ≡ None) × (address_of LeftToCaller ≡ None)

-- ---- an authority

abbrev pub certificate : Certificate
certificate = of_fields fields

abbrev pub nobodys : Certificate
nobodys = of_fields (record fields { valid_principals = [] })

abbrev found : List ℕ → Found
found name = record { line = 0; terms = own_terms; name = name }

-- A certificate lets in whom it lists, on its own terms; one that lists nobody lets nobody in.
abbrev pub Listed : Type 0
Listed = IsListed (codes "alice") certificate (found (codes "alice"))
    × IsListed (codes "bob") certificate (found (codes "bob"))
    × ¬ IsListed (codes "alice") certificate (found (codes "bob"))
    × ((f : Found) → ¬ IsListed (codes "carol") certificate f)
    × ((f : Found) → ¬ IsListed (codes "alice") nobodys f)
    × ¬ IsListed (codes "alice") certificate (record (found (codes "alice")) { terms = no_terms })

-- The certificate alone says whether a touch is asked for, and permits what it permits.
abbrev pub OwnTerms : Type 0
OwnTerms = (own_terms.touch_required ≡ false) × (own_terms.verify_required ≡ false) × (own_terms.permissions ≡ all_permitted) × (own_terms.command ≡ None) × (own_terms.is_authority ≡ false)

abbrev pub trusting : List Text → Principals → List Text → Trusted
trusting files principals command = record { authorized_keys = files; authorities = fingerprint Sha256 authority ∷ []; principals = principals; command_keys = command; least_rsa_bits = 0; requirements = record { touch_required = false; verify_required = false } }

abbrev pub login : Trusted → Login
login t = record { offer = record { user = codes "alice"; algorithm = None; blob = [] }; trusted = t; client = Unknown; host = None; time = 100; revokes = λ key identity. false; revokes_key = λ key. false }

-- An authority that is trusted lets in, without a file; a file of principals that has no line takes
-- that away; another authority is passed over.
abbrev pub Authorities : Type 0
Authorities = IsOfAuthority (login (trusting [] InCertificate [])) certificate source.Authority (found (codes "alice"))
    × ¬ IsOfAuthority (login (record (trusting [] InCertificate []) { authorities = [] })) certificate source.Authority (found (codes "alice"))
    × ¬ IsOfAuthority (login (trusting [] (Files []) [])) certificate source.Authority (found (codes "alice"))
    × AuthorityGoesOn (login (record (trusting [] InCertificate []) { authorities = [] })) certificate
    × AuthorityGoesOn (login (trusting [] (Files []) [])) certificate
    × ¬ AuthorityGoesOn (login (trusting [] InCertificate [])) certificate
    × ¬ AuthorityGoesOn (login (trusting [] (Files (Unreadable ∷ [])) [])) certificate
    × AuthorityGoesOn (login (trusting [] InCertificate [])) nobodys

-- The files come first: one that could not be read ends it. The authority comes before the command.
abbrev pub Sources : Type 0
Sources = IsCertificateSource (login (trusting [] InCertificate [])) certificate source.Authority (found (codes "alice"))
    × ¬ IsCertificateSource (login (trusting (Unreadable ∷ []) InCertificate [])) certificate source.Authority (found (codes "alice"))
    × IsCertificateSource (login (trusting [] InCertificate (Unreadable ∷ []))) certificate source.Authority (found (codes "alice"))
    × ((l : Login) (c : Certificate) (n : ℕ) (f : Found) → ¬ AuthorityGoesOn l c → ¬ IsCertificateSource l c (source.Command n) f)
    × ((f : Found) → ¬ IsKeySource (login (trusting [] InCertificate [])) fields.key source.Authority f)

-- ---- what is counted and required

-- By a line the key that it has signs for the login, and else one of the authorities.
abbrev pub Counted : Type 0
Counted = (signer trusted : ℕ) → (counted_in (source.AuthorizedKeys 3) signer trusted ≡ signer) × (counted_in (source.Command 3) signer trusted ≡ signer) × (counted_in source.Authority signer trusted ≡ trusted) × (counted_in (source.Principals 3) signer trusted ≡ trusted)

abbrev requiring : Bool → Bool → Requirements
requiring touch verify = record { touch_required = touch; verify_required = verify }

-- What the server requires is required whatever the grant says, and what the grant requires, too.
abbrev pub Required : Type 0
Required = (g : PublickeyGrant) → ((required_of (requiring true true) g) ≡ requiring true true)
    × ((required_of (requiring false false) g) ≡ requiring g.user.terms.touch_required g.user.terms.verify_required)

-- What is not asked needs no answer; a signature that raises no question counts for nothing.
abbrev pub Answered : Type 0
Answered = IsAnswered (λ q. false) None
    × ¬ IsAnswered (λ q. true) (Some None)
    × ((q : Question) → IsAnswered (λ q. true) (Some (Some q)))
    × ((q : Question) → ¬ IsAnswered (λ q. false) (Some (Some q)))

-- Worked examples of who is granted nothing, and who does not log in: each with one thing changed
-- (auth2-pubkey.c of OpenSSH).

abbrev pub trusting_all : Login
trusting_all = login (trusting [] InCertificate [])

-- A revoked key, a DSA key, and one that no text has: an authority lets in no key by itself.
abbrev pub Keys : Type 0
Keys = ((l : Login) (k : Key) (g : PublickeyGrant) → ¬ GrantsKey (record l { revokes_key = λ key. true }) k g)
    × ((l : Login) (g : PublickeyGrant) → ¬ GrantsKey l dsa_key g)
    × ((g : PublickeyGrant) → ¬ GrantsKey trusting_all fields.key g)
    × ((g : PublickeyGrant) → ¬ GrantsKey (login (trusting (Unreadable ∷ []) InCertificate [])) fields.key g)

-- A revoked certificate; one before and after its window; of an authority whom nobody trusts; that
-- lists nobody; and where a file of principals has no line.
abbrev pub Certificates : Type 0
Certificates = ((l : Login) (c : Certificate) (g : PublickeyGrant) → ¬ GrantsCertificate (record l { revokes = λ key identity. true }) c g)
    × ((l : Login) (g : PublickeyGrant) → ¬ GrantsCertificate (record l { time = 99 }) certificate g)
    × ((l : Login) (g : PublickeyGrant) → ¬ GrantsCertificate (record l { time = 200 }) certificate g)
    × ((l : Login) (g : PublickeyGrant) → ¬ GrantsCertificate l nobodys g)
    × ((g : PublickeyGrant) → ¬ GrantsCertificate (login (record (trusting [] InCertificate []) { authorities = [] })) certificate g)
    × ((g : PublickeyGrant) → ¬ GrantsCertificate (login (trusting [] (Files []) [])) certificate g)
    × ((g : PublickeyGrant) → ¬ GrantsCertificate (login (trusting (Unreadable ∷ []) InCertificate [])) certificate g)

-- Where the verifier says no nobody logs in who signs here, nor by a certificate at all, and none may
-- offer one.
abbrev pub Logins : Type 0
Logins = ((l : Login) (g : PublickeyGrant) (session_id bytes : List ℕ) (host_key : Option (List ℕ)) → ¬ IsLogin (λ q. false) l (Request session_id host_key bytes) g)
    × ((l : Login) (g : PublickeyGrant) (client : Option (Option Question)) → ¬ IsPending l BySshd g None (Some None))
    × ((is : MayOffer (λ q. false) trusting_all) → is.1.authority ≡ None)
    × ¬ MayOffer (λ q. true) (login (record (trusting [] InCertificate []) { authorities = [] }))

-- Lines of keys and of authorities that refuse are passed over, and a key's line is for no name. A
-- certificate that lists somebody is let in by its authority.
abbrev pub Refusals : Type 0
Refusals = ((u : UserLogin) (k : Key) (text : List ℕ) → ¬ RefusesBy u (KeyLine k) text)
    × ((u : UserLogin) (c : Certificate) (text : List ℕ) → ¬ RefusesBy u (AuthorityLine c) text)
    × ((u : UserLogin) (k : Key) (text : List ℕ) (f : Found) → IsFoundBy u (KeyLine k) text f → f.name ≡ [])
    × PrincipalsGoOn trusting_all nobodys InCertificate
    × ¬ PrincipalsGoOn trusting_all certificate InCertificate
