-- Who asks for a login by public key, and whom the server trusts (sshd_config(5)).
use Rattle.std.specs.Prelude.{ℕ, List, Bool, Option, Some, None, ◌≡◌, ◌⊎◌, zero, suc, [], ◌∷◌, IsTrue, false}
use Rattle.std.specs.declared.net.ip_addr.IpAddr.{IpAddr}
use Rattle.login_policy.specs.declared.client.Client.{Client}
use Rattle.login_policy.specs.declared.client.Client.TheVariants.{At, LeftToCaller, Unknown}
use Rattle.sshkey_krl.specs.Revocation.{CertificateIdentity}
use Rattle.sshkey_model.specs.Fingerprints.{Fingerprint}
use Rattle.sshkey_userauth.specs.declared.judgement.Requirements.{Requirements}
use Rattle.publickey_login.specs.Signatures.{BySshd, ByTransport, Offer, Request, Signed}
use denote.Ref.{Bor}
use Rattle.std.specs.List.{Any}
use Rattle.std.specs.Str.Lines.{lines}
use Rattle.login_terms.specs.Options.{Terms, no_terms}
use Rattle.sshkey_model.specs.Certificates.{Certificate}
use Rattle.sshkey_model.specs.Keys.{Key}
use Rattle.user_keys.specs.CertificateLogins.{IsLineFor, signer}
use Rattle.user_keys.specs.UserLogins.{EndsBy, LetsFirst, Ends, Lets, MayLet, OfCertificate, OfKey, UserLogin}
use Rattle.user_keys.specs.Principals.{DecidesFirst, IsPrincipalLine, RefusesPrincipal, Decides, MayDecide, lines_at_feeds}
use Rattle.sshkey_model.specs.Refusals.{has_trusted_authority}
use Rattle.user_keys.specs.Certificates.{name_listed}
use Rattle.publickey_login.specs.declared.grant.Source.{Source}
use Rattle.publickey_login.specs.declared.grant.Source.TheVariants as source

-- The text of a file, or that it could not be read.
pub data Text : Type 0 where
  Read : List ℕ → Text
  Unreadable : Text

-- Whom an authority lets in: those whom the certificate lists, or those whom texts of
-- AuthorizedPrincipalsFile let in.
pub data Principals : Type 0 where
  InCertificate : Principals
  Files : List Text → Principals

-- AuthorizedKeysFile, TrustedUserCAKeys, AuthorizedPrincipalsFile, what AuthorizedKeysCommand wrote,
-- RequiredRSASize and PubkeyAuthOptions
pub record Trusted : Type 0 where
  pub authorized_keys : List Text
  pub authorities : List Fingerprint
  pub principals : Principals
  pub command_keys : List Text
  pub least_rsa_bits : ℕ
  pub requirements : Requirements

pub record Login : Type 0 where
  pub offer : Offer
  pub trusted : Trusted
  pub client : Client
  pub host : Option (Bor (List ℕ))
  pub time : ℕ
  pub revokes : List ℕ → CertificateIdentity → Bool
  pub revokes_key : List ℕ → Bool

-- An address that is left to the caller is not known here.
abbrev pub client_known : Client → Client
client_known (At address) = At address
client_known Unknown = Unknown
client_known LeftToCaller = Unknown

-- But sshd, where it verifies the signature, judges the addresses of a certificate, too.
abbrev pub client_seen : Signed → Client → Client
client_seen BySshd client = client
client_seen (Request session_id host_key signature) client = client_known client
client_seen (ByTransport flags) client = client_known client

abbrev pub address_of : Client → Option IpAddr
address_of (At address) = Some address
address_of Unknown = None
address_of LeftToCaller = None

-- The line of several texts that lets in: sshd(8) asks one text after the other.

-- ---- what is sought

-- a line of the key that is offered; or of the authority of the certificate that is; or for one of
-- its principals
pub data Sought : Type 0 where
  KeyLine : Key → Sought
  AuthorityLine PrincipalLine : Certificate → Sought

-- the line's number, what it says, and the name for which it lets a certificate in
pub record Found : Type 0 where
  pub line : ℕ
  pub terms : Terms
  pub name : List ℕ

-- the login by these lines
abbrev pub by_lines : UserLogin → List (List ℕ) → UserLogin
by_lines u lines = record u { lines = lines }

abbrev pub in_text : UserLogin → List ℕ → UserLogin
in_text u text = by_lines u (lines text)

abbrev pub in_principals : UserLogin → List ℕ → UserLogin
in_principals u text = by_lines u (lines_at_feeds text)

-- ---- a text

-- It is the first line of the text that is sought, and lets in.
abbrev pub IsFoundBy : UserLogin → Sought → List ℕ → Found → Type 0
IsFoundBy u (KeyLine k) text f = LetsFirst (Lets (in_text u text) (OfKey k)) (MayLet (in_text u text) (OfKey k)) (lines text) f.line f.terms × (f.name ≡ [])
IsFoundBy u (AuthorityLine c) text f = IsLineFor (in_text u text) c f.line f.terms f.name
IsFoundBy u (PrincipalLine c) text f = IsPrincipalLine (in_principals u text) c f.line f.terms f.name

-- No line of the text lets in or may do so; or none is for a principal, whatever it says.
abbrev pub Passes : UserLogin → Sought → List ℕ → Type 0
Passes u (KeyLine k) text = ¬ Any (Ends (in_text u text) (OfKey k)) (lines text)
Passes u (AuthorityLine c) text = ¬ Any (Ends (in_text u text) (OfCertificate c)) (lines text)
Passes u (PrincipalLine c) text = ¬ Any (EndsBy (Decides c) (MayDecide c)) (lines_at_feeds text)

-- The first line that is for a principal refuses.
abbrev pub RefusesBy : UserLogin → Sought → List ℕ → Type 0
RefusesBy u (KeyLine k) text = ⊥
RefusesBy u (AuthorityLine c) text = ⊥
RefusesBy u (PrincipalLine c) text = (n : ℕ) × (t : Terms) × (name : List ℕ) × DecidesFirst c (lines_at_feeds text) n t name × RefusesPrincipal (in_principals u text) c t

-- ---- several texts

-- Of the first text that is not passed over, the one of that number, this holds.
unfoldable pub IsOfFirst : (List ℕ → Type 0) → (List ℕ → Type 0) → List Text → ℕ → Type 0
IsOfFirst Holds Passes [] number = ⊥
IsOfFirst Holds Passes (Unreadable ∷ rest) number = ⊥
IsOfFirst Holds Passes (Read text ∷ rest) zero = Holds text
IsOfFirst Holds Passes (Read text ∷ rest) (suc number) = Passes text × IsOfFirst Holds Passes rest number

-- Each was read, and is passed over.
unfoldable pub ArePassed : (List ℕ → Type 0) → List Text → Type 0
ArePassed Passes [] = Unit {0}
ArePassed Passes (Unreadable ∷ rest) = ⊥
ArePassed Passes (Read text ∷ rest) = Passes text × ArePassed Passes rest

abbrev pub IsFoundIn : UserLogin → Sought → List Text → ℕ → Found → Type 0
IsFoundIn u s texts number f = IsOfFirst (λ text. IsFoundBy u s text f) (Passes u s) texts number

-- What sshd asks after the texts is asked: all are passed over, or the line for a principal that
-- counts refuses.
abbrev pub GoesOn : UserLogin → Sought → List Text → Type 0
GoesOn u s texts = ArePassed (Passes u s) texts ⊎ ((number : ℕ) × IsOfFirst (RefusesBy u s) (Passes u s) texts number)

-- By what sshd(8) lets in: the texts of AuthorizedKeysFile, then an authority of TrustedUserCAKeys,
-- then what AuthorizedKeysCommand wrote (sshd_config(5)). The first that lets in counts, on its own
-- terms; one that refuses is passed over. Nothing here asks about a signature.

-- the login that lines are asked about
abbrev pub user_of : Login → UserLogin
user_of l = record { lines = []; user = l.offer.user; client = address_of l.client; host = l.host; time = l.time; least_rsa_bits = l.trusted.least_rsa_bits }

-- ---- of a key

abbrev pub IsKeySource : Login → Key → Source → Found → Type 0
IsKeySource l k (source.AuthorizedKeys n) f = IsFoundIn (user_of l) (KeyLine k) l.trusted.authorized_keys n f
IsKeySource l k source.Authority f = ⊥
IsKeySource l k (source.Principals n) f = ⊥
IsKeySource l k (source.Command n) f = GoesOn (user_of l) (KeyLine k) l.trusted.authorized_keys × IsFoundIn (user_of l) (KeyLine k) l.trusted.command_keys n f

-- ---- of a certificate

-- what a certificate is taken on alone: whether a touch is asked for it says itself
abbrev pub own_terms : Terms
own_terms = record no_terms { touch_required = false }

-- An authority lets in whom the certificate lists.
abbrev pub IsListed : List ℕ → Certificate → Found → Type 0
IsListed user c f = (f.line ≡ 0) × (f.terms ≡ own_terms) × (name_listed c.signed.valid_principals user None ≡ Some f.name)

abbrev pub IsOfPrincipals : Login → Certificate → Principals → Source → Found → Type 0
IsOfPrincipals l c InCertificate source.Authority f = IsListed l.offer.user c f
IsOfPrincipals l c (Files texts) (source.Principals n) f = IsFoundIn (user_of l) (PrincipalLine c) texts n f
IsOfPrincipals l c _ _ f = ⊥

-- The authority's certificate lets nobody in by its principals.
abbrev pub PrincipalsGoOn : Login → Certificate → Principals → Type 0
PrincipalsGoOn l c InCertificate = name_listed c.signed.valid_principals l.offer.user None ≡ None
PrincipalsGoOn l c (Files texts) = GoesOn (user_of l) (PrincipalLine c) texts

abbrev pub IsOfAuthority : Login → Certificate → Source → Found → Type 0
IsOfAuthority l c s f = IsTrue (has_trusted_authority l.trusted.authorities c) × IsOfPrincipals l c l.trusted.principals s f

abbrev pub AuthorityGoesOn : Login → Certificate → Type 0
AuthorityGoesOn l c = (has_trusted_authority l.trusted.authorities c ≡ false) ⊎ (IsTrue (has_trusted_authority l.trusted.authorities c) × PrincipalsGoOn l c l.trusted.principals)

abbrev pub FilesGoOn : Login → Certificate → Type 0
FilesGoOn l c = GoesOn (user_of l) (AuthorityLine c) l.trusted.authorized_keys

abbrev pub IsCertificateSource : Login → Certificate → Source → Found → Type 0
IsCertificateSource l c (source.AuthorizedKeys n) f = IsFoundIn (user_of l) (AuthorityLine c) l.trusted.authorized_keys n f
IsCertificateSource l c source.Authority f = FilesGoOn l c × IsOfAuthority l c source.Authority f
IsCertificateSource l c (source.Principals n) f = FilesGoOn l c × IsOfAuthority l c (source.Principals n) f
IsCertificateSource l c (source.Command n) f = FilesGoOn l c × AuthorityGoesOn l c × IsFoundIn (user_of l) (AuthorityLine c) l.trusted.command_keys n f

-- whose certificates count there: of the key that the line has, or of the authorities
abbrev pub counted_in : {X : Type 0} → Source → X → X → X
counted_in (source.AuthorizedKeys n) signer trusted = signer
counted_in source.Authority signer trusted = trusted
counted_in (source.Principals n) signer trusted = trusted
counted_in (source.Command n) signer trusted = signer

abbrev pub authorities_of : Login → Certificate → Source → List Fingerprint
authorities_of l c s = counted_in s (signer c) l.trusted.authorities
