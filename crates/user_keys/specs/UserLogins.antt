-- The first line of a text that lets in, on terms that are told; and that sshd takes that line,
-- whatever it makes of what cannot be told.
use Rattle.std.specs.Prelude.{◌≡◌, ◌⊎◌, ◌+◌, ℕ, List, ◌∷◌, ◌++◌, Contains, IsSome, Option, Some, false, length, option_map, Bool, true, IsTrue, None}
use Rattle.std.specs.List.{Any}
use Rattle.login_terms.specs.Options.{Terms, terms_of}
use Rattle.std.specs.Str.Lines.{lines}
use Rattle.std.specs.declared.net.ip_addr.IpAddr.{IpAddr}
use Rattle.openssh_limits.specs.Limits.{openssh_accepts_key}
use Rattle.sshkey_cert.specs.Certificates.{certificate_of}
use Rattle.sshkey_keys.specs.Keys.{key_of}
use Rattle.sshkey_krl.specs.Revocations.{is_key_revoked}
use Rattle.sshkey_model.specs.Certificates.{Certificate}
use Rattle.sshkey_model.specs.Keys.{Key}
use Rattle.user_keys.specs.Judgements.{Judges}
use Rattle.user_keys.specs.Certificates.{JudgesCertificate}
use Rattle.user_keys.specs.Lines.{IsFor, MayBeFor}
use Rattle.user_keys.specs.declared.answer.Judgement.{Judgement}
use Rattle.user_keys.specs.declared.answer.Judgement.TheVariants.{Allows, Refuses, Unclear}
use Rattle.user_keys.specs.declared.credential.Credential as code_credential
use Rattle.user_keys.specs.declared.credential.Credential.TheVariants as code_by
use Rattle.user_keys.specs.declared.grant.UserGrant.{UserGrant}
use Rattle.user_keys.specs.declared.login.UserLogin as code
use Rattle.user_keys.specs.declared.refusal.Reason.{Reason}
use denote.Ref.{Bor}

-- It lets in or may do so: no line after such a one is asked.
abbrev pub EndsBy : (List ℕ → Terms → Type 0) → (List ℕ → Type 0) → List ℕ → Type 0
EndsBy Lets MayLet line = ((t : Terms) × Lets line t) ⊎ MayLet line

-- It is the first line of which that holds, and the number is its own, from 1.
pub record IsFirst (Holds : List ℕ → Type 0) (all : List (List ℕ)) (line : List ℕ) (number : ℕ) : Type 0 where
  pub before : List (List ℕ)
  pub after : List (List ℕ)
  pub is : all ≡ before ++ (line ∷ after)
  pub none : ¬ Any Holds before
  pub holds : Holds line
  pub counted : number ≡ length before + 1

-- The first line that lets in or may do so lets in for sure, and on those terms alone.
pub record LetsFirst (Lets : List ℕ → Terms → Type 0) (MayLet : List ℕ → Type 0) (all : List (List ℕ)) (number : ℕ) (t : Terms) : Type 0 where
  pub line : List ℕ
  pub first : IsFirst (EndsBy Lets MayLet) all line number
  pub lets : Lets line t
  pub alone : (u : Terms) → Lets line u → u ≡ t
  pub told : ¬ MayLet line

-- ---- sshd, of whatever version and on whatever machine

-- the terms but for tunnels, which `restrict` leaves before 10.5
abbrev pub but_tunnels : Terms → Terms
but_tunnels t = record t { permissions = record t.permissions { tunnels = false } }

-- It takes a line for one that lets in on some terms, or passes over it. Of the lines of the text it
-- does so where that is told here, and else only where it may. What is seen of the terms is as told:
-- all of them, or all but tunnels.
pub record TakesAsTold (Lets : List ℕ → Terms → Type 0) (MayLet : List ℕ → Type 0) (all : List (List ℕ)) (seen : Terms → Terms) (takes : List ℕ → Option Terms) : Type 0 where
  pub told : (line : List ℕ) (t : Terms) → Contains all line → Lets line t → option_map seen (takes line) ≡ Some (seen t)
  pub only : (line : List ℕ) → Contains all line → IsSome (takes line) → EndsBy Lets MayLet line

-- The first line that it takes is that one, and what is seen of the terms is as of those.
pub record TakesFirst (seen : Terms → Terms) (takes : List ℕ → Option Terms) (all : List (List ℕ)) (number : ℕ) (t : Terms) : Type 0 where
  pub line : List ℕ
  pub first : IsFirst (λ l. IsSome (takes l)) all line number
  pub terms : option_map seen (takes line) ≡ Some (seen t)

-- Who may log in by a text of authorized_keys, and what the login is bound to (sshd(8),
-- "AUTHORIZED_KEYS FILE FORMAT"): by the first line that is for the key, or for the authority of the
-- certificate, and allows the login, whatever later lines say, and on the terms of that line.

-- A login that is asked for, and what is known of it.
pub record UserLogin : Type 0 where
  pub lines : List (List ℕ)
  pub user : List ℕ
  pub client : Option IpAddr
  pub host : Option (Bor (List ℕ))
  pub time : ℕ
  pub least_rsa_bits : ℕ

-- that of a call
abbrev pub login_of : code.UserLogin → UserLogin
login_of l = record { lines = lines l.text.now; user = l.user.now; client = l.client; host = l.host; time = l.unix_timestamp; least_rsa_bits = l.least_rsa_bits }

-- What a client offers: a key, or a certificate.
pub data Credential : Type 0 where
  OfKey : Key → Credential
  OfCertificate : Certificate → Credential

abbrev pub credential_of : code_credential.Credential → Credential
credential_of (code_by.Key k) = OfKey (key_of k.now)
credential_of (code_by.Certificate c) = OfCertificate (certificate_of c.now)

-- ---- a line

-- whose lines they are: the key's, or the authority's that signed the certificate
abbrev pub listed_key : Credential → Key
listed_key (OfKey k) = k
listed_key (OfCertificate c) = c.signed.signature_key

abbrev pub is_certificate : Credential → Bool
is_certificate (OfKey k) = false
is_certificate (OfCertificate c) = true

-- The line is for that key, as that of an authority or of none.
abbrev pub IsOwn : Credential → List ℕ → Terms → Type 0
IsOwn by line t = IsFor (is_certificate by) (listed_key by) line t

-- what the terms say of the login
abbrev pub JudgesWith : Credential → List ℕ → Terms → (Judgement → Type 0) → Judgement → Type 0
JudgesWith (OfKey k) user t Says j = Says j
JudgesWith (OfCertificate c) user t Says j = JudgesCertificate c user t Says j

abbrev pub JudgesLogin : UserLogin → Credential → Terms → Judgement → Type 0
JudgesLogin login by t j = JudgesWith by login.user t (Judges t login.time login.client login.host) j

-- The line lets the key in on those terms.
pub record Lets (login : UserLogin) (by : Credential) (line : List ℕ) (t : Terms) : Type 0 where
  pub own : IsOwn by line t
  pub allowed : JudgesLogin login by t Allows

-- It is for the key, and refuses it for that.
pub record RefusesFor (login : UserLogin) (by : Credential) (line : List ℕ) (r : Reason) : Type 0 where
  pub terms : Terms
  pub own : IsOwn by line terms
  pub refused : JudgesLogin login by terms (Refuses r)

-- It is for the key, and may allow the login.
pub record MayAllow (login : UserLogin) (by : Credential) (line : List ℕ) : Type 0 where
  pub terms : Terms
  pub own : IsOwn by line terms
  pub may : JudgesLogin login by terms Unclear

-- sshd may let the key in by it, on terms that cannot be told.
abbrev pub MayLet : UserLogin → Credential → List ℕ → Type 0
MayLet login by line = MayBeFor (listed_key by) line ⊎ MayAllow login by line

-- no line after such a one is asked
abbrev pub Ends : UserLogin → Credential → List ℕ → Type 0
Ends login by line = EndsBy (Lets login by) (MayLet login by) line

abbrev pub IsListedBy : Credential → List ℕ → Type 0
IsListedBy by line = (t : Terms) × IsOwn by line t

-- ---- all lines

-- The first line that lets the key in or may do so lets it in for sure, and on the grant's terms
-- alone.
abbrev pub GrantsFirst : UserLogin → Credential → UserGrant → Type 0
GrantsFirst login by g = LetsFirst (Lets login by) (MayLet login by) login.lines g.line (terms_of g.terms)

-- Who holds the key is let in, and the login is bound to what the grant says.
pub record Admits (login : UserLogin) (key : Key) (revokes_key : List ℕ → Bool) (g : UserGrant) : Type 0 where
  pub accepted : IsTrue (openssh_accepts_key login.least_rsa_bits key)
  pub unrevoked : is_key_revoked revokes_key key ≡ false
  pub granted : GrantsFirst login (OfKey key) g
  pub by_key : g.certified ≡ None

-- Whatever sshd makes of what cannot be told, it takes the grant's line first, and on its terms, or on
-- these but for what is not seen of them.
abbrev pub IsAsStrict : UserLogin → Credential → UserGrant → Type 0
IsAsStrict login by g = (seen : Terms → Terms) (takes : List ℕ → Option Terms) → TakesAsTold (Lets login by) (MayLet login by) login.lines seen takes → TakesFirst seen takes login.lines g.line (terms_of g.terms)
