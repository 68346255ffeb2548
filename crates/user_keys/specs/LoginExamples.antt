-- Worked examples: which line lets a key or a certificate in, each part held and broken by itself; and
-- which line an sshd takes.
use Rattle.std.specs.Prelude.{◌≡◌, ℕ, List, [], ◌∷◌, ◌++◌, true, false, IsTrue, Option, None, Some, bytes_eq, codes, if◌then◌else◌, replicate}
use Rattle.login_terms.specs.Options.{Terms, no_terms, none_permitted, terms_of}
use Rattle.sshkey_cert.specs.Certificates.{certificate_of}
use Rattle.sshkey_cert.specs.declared.certificate.Certificate as code
use Rattle.sshkey_entries.specs.AuthorizedKeys.{AuthorizedKey}
use Rattle.sshkey_keys.specs.Keys.{key_of}
use Rattle.sshkey_keys.specs.declared.key_data.KeyData.{KeyData}
use Rattle.sshkey_model.specs.CertificateExamples.{openssh_certificate}
use Rattle.sshkey_model.specs.Certificates.{Certificate}
use Rattle.sshkey_model.specs.Keys.{Key, Dsa, Ecdsa, Ed25519, Rsa, SkEcdsa, SkEd25519, Opaque}
use Rattle.sshkey_model.specs.Names.{Nistp256}
use Rattle.user_keys.specs.Answers.{first_refused, refusal_for}
use Rattle.user_keys.specs.UserLogins.{TakesAsTold, TakesFirst, but_tunnels, Credential, IsAsStrict, IsOwn, Lets, MayLet, OfCertificate, OfKey, UserLogin, credential_of, is_certificate, listed_key}
use Rattle.user_keys.specs.Lines.{IsEntryFor, MayBeEntryFor, MayBeFor, before_zero, AreTerms, MayBeTerms}
use Rattle.user_keys.specs.Spellings.{own_part}
use Rattle.user_keys.specs.TermExamples.{expiring, for_names}
use Rattle.user_keys.specs.declared.credential.Credential.TheVariants as code_by
use Rattle.user_keys.specs.declared.grant.UserGrant.{UserGrant}
use Rattle.user_keys.specs.declared.refusal.Reason.TheVariants as reason
use Rattle.user_keys.specs.declared.refusal.UserRefusal.TheVariants as refusal
use denote.Ref.{Bor}

-- ---- the parts of keys

abbrev held : List ℕ → Key
held application = SkEd25519 (record { key = replicate 32 1; application = application })

-- the point, or the last number
abbrev pub Parts : Type 0
Parts = (own_part (Dsa (record { p = codes "p"; q = codes "q"; g = codes "g"; y = codes "y" })) ≡ codes "y") × (own_part (Rsa (record { e = codes "e"; n = codes "n" })) ≡ codes "n")
    × (own_part (Ecdsa Nistp256 (codes "p")) ≡ codes "p") × (own_part (Ed25519 (codes "p")) ≡ codes "p")
    × (own_part (SkEcdsa (record { key = codes "p"; application = codes "ssh:" })) ≡ codes "p") × (own_part (SkEd25519 (record { key = codes "p"; application = codes "ssh:" })) ≡ codes "p")
    × (own_part (Opaque (codes "key@example.org") (codes "p")) ≡ codes "p")

-- A line ends at a zero byte.
abbrev pub LineEnds : Type 0
LineEnds = (before_zero (codes "ab\0c\0") ≡ codes "ab") × (before_zero (codes "ab") ≡ codes "ab") × (before_zero (codes "\0a") ≡ [])

-- ---- lines

abbrev entry_of : Key → List ℕ → AuthorizedKey
entry_of key options = record { options = options; key = key; comment = [] }

abbrev pub other : Key
other = Ed25519 (replicate 32 2)

-- An entry is for a key that has it, on terms that its options say, as that of an authority or of none.
abbrev pub Entries : Type 0
Entries = ((options : List ℕ) (t : Terms) → AreTerms options t → t.is_authority ≡ false → IsEntryFor false (held (codes "ssh:")) (entry_of (held (codes "ssh:")) options) t)
    × ((options : List ℕ) (t : Terms) → IsEntryFor false (held (codes "ssh:")) (entry_of other options) t → ⊥)
    × ((options : List ℕ) (t : Terms) → IsEntryFor false (held (codes "ssh:")) (entry_of (held (codes "ssh:x")) options) t → ⊥)
    × ((options : List ℕ) (t : Terms) → IsEntryFor false (held (codes "ssh:")) (entry_of (held (codes "ssh:")) options) t → AreTerms options t)
    × ((options : List ℕ) (t : Terms) → IsEntryFor false (held (codes "ssh:")) (entry_of (held (codes "ssh:")) options) t → IsTrue t.is_authority → ⊥)
    × ((options : List ℕ) (t : Terms) → IsEntryFor true (held (codes "ssh:")) (entry_of (held (codes "ssh:")) options) t → t.is_authority ≡ false → ⊥)

-- It may be for a key where sshd may read its options otherwise, or where the two keys have one point:
-- sshd takes an application to end at a zero byte.
abbrev pub OddEntries : Type 0
OddEntries = ((options : List ℕ) → MayBeTerms options → MayBeEntryFor other (entry_of other options))
    × ((options : List ℕ) → (MayBeTerms options → ⊥) → MayBeEntryFor other (entry_of other options) → ⊥)
    × ((options : List ℕ) → MayBeEntryFor (held (codes "ssh:")) (entry_of (held (codes "ssh:\0")) options))
    × ((options : List ℕ) → MayBeEntryFor (held (codes "ssh:")) (entry_of other options) → ⊥)

-- ---- logins

abbrev pub login_at : ℕ → UserLogin
login_at time = record { lines = []; user = codes "alice"; client = None; host = None; time = time; least_rsa_bits = 0 }

abbrev pub by_key : Credential
by_key = OfKey other

-- A line of the key lets it in whose terms allow it: at its time, with no `principals`, and without a
-- list of places where the client's is not known.
abbrev pub LetsKey : Type 0
LetsKey = ((line : List ℕ) → IsOwn by_key line no_terms → Lets (login_at 21) by_key line no_terms)
    × ((line : List ℕ) → IsOwn by_key line expiring → Lets (login_at 10) by_key line expiring)
    × ((line : List ℕ) (t : Terms) → Lets (login_at 10) by_key line t → IsOwn by_key line t)
    × ((line : List ℕ) (t : Terms) → Lets (login_at 10) by_key line t → t.is_authority ≡ false)
    × ((line : List ℕ) → Lets (login_at 21) by_key line expiring → ⊥)
    × ((line : List ℕ) → Lets (login_at 10) by_key line (for_names (codes "alice")) → ⊥)
    × ((line : List ℕ) → Lets (login_at 10) by_key line (record no_terms { from = Some (codes "*") }) → ⊥)

abbrev certificate_for : List (List ℕ) → Certificate
certificate_for names = record openssh_certificate { signed = record openssh_certificate.signed { valid_principals = names; critical_options = record { name = codes "force-command"; value = codes "ls" } ∷ [] } }

abbrev by_certificate : List (List ℕ) → Credential
by_certificate names = OfCertificate (certificate_for names)

abbrev authority : Terms
authority = record no_terms { is_authority = true }

-- A line of the key that signed it lets a certificate in with `cert-authority`, if the terms allow it,
-- it lists the user, and no other command stands in the line.
abbrev pub LetsCertificate : Type 0
LetsCertificate = ((line : List ℕ) → IsOwn (by_certificate (codes "alice" ∷ [])) line authority → Lets (login_at 5) (by_certificate (codes "alice" ∷ [])) line authority)
    × ((line : List ℕ) (t : Terms) → Lets (login_at 5) (by_certificate (codes "alice" ∷ [])) line t → IsTrue t.is_authority)
    × ((line : List ℕ) → Lets (login_at 5) (by_certificate (codes "bob" ∷ [])) line authority → ⊥)
    × ((line : List ℕ) → Lets (login_at 5) (by_certificate (codes "alice" ∷ [])) line (record authority { command = Some (codes "id") }) → ⊥)
    × ((line : List ℕ) → Lets (login_at 21) (by_certificate (codes "alice" ∷ [])) line (record expiring { is_authority = true }) → ⊥)
    × (listed_key by_key ≡ other) × (listed_key (OfCertificate openssh_certificate) ≡ openssh_certificate.signed.signature_key)
    × (is_certificate by_key ≡ false) × (is_certificate (OfCertificate openssh_certificate) ≡ true)
    × ((k : Bor KeyData) → credential_of (code_by.Key k) ≡ OfKey (key_of k.now))
    × ((c : Bor code.Certificate) → credential_of (code_by.Certificate c) ≡ OfCertificate (certificate_of c.now))

-- sshd may let the key in by a line that it may take for one of the key, or by one of the key that is
-- over in some zone; and by no other: by none that is over in no zone, nor by one that is over in all.
abbrev pub MayLetIn : Type 0
MayLetIn = ((line : List ℕ) → MayBeFor other line → MayLet (login_at 10) by_key line)
    × ((line : List ℕ) → IsOwn by_key line expiring → MayLet (login_at 11) by_key line)
    × ((line : List ℕ) → IsOwn by_key line expiring → MayLet (login_at 20) by_key line)
    × ((line : List ℕ) → (MayBeFor other line → ⊥) → ((t : Terms) → IsOwn by_key line t → t ≡ expiring) → MayLet (login_at 10) by_key line → ⊥)
    × ((line : List ℕ) → (MayBeFor other line → ⊥) → ((t : Terms) → IsOwn by_key line t → t ≡ expiring) → MayLet (login_at 21) by_key line → ⊥)

-- Of the lines that refuse the first is told.
abbrev pub FirstRefused : Type 0
FirstRefused = (first_refused None 2 reason.Expired ≡ Some (2, reason.Expired)) × (first_refused (Some (1, reason.Elsewhere)) 2 reason.Expired ≡ Some (1, reason.Elsewhere))
    × (refusal_for None ≡ refusal.NotListed) × (refusal_for (Some (2, reason.Expired)) ≡ refusal.NotAllowed 2 reason.Expired)

-- ---- the line that an sshd takes

abbrev pub key_line : List ℕ
key_line = codes "ssh-ed25519 AAAAC3NzaC1lZDI1NTE5AAAAILM+rvN+ot98qgEN796jTiQfZfG1KaT0PtFDJ/XFSqti"

abbrev pub restrict_line : List ℕ
restrict_line = codes "restrict " ++ key_line

abbrev pub restricted : Terms
restricted = record no_terms { permissions = none_permitted }

-- what an sshd makes of the two lines that takes `restrict` for those terms
abbrev pub taking : Terms → List ℕ → Option Terms
taking t line = if bytes_eq line restrict_line then Some t else if bytes_eq line key_line then Some no_terms else None

-- before 10.5: `restrict` leaves tunnels
abbrev pub leaves_tunnels : List ℕ → Option Terms
leaves_tunnels = taking (record restricted { permissions = record none_permitted { tunnels = true } })

-- since then
abbrev pub takes_all : List ℕ → Option Terms
takes_all = taking restricted

-- The line lets in on these terms alone.
pub record LetsAlone (login : UserLogin) (by : Credential) (line : List ℕ) (t : Terms) : Type 0 where
  pub lets : Lets login by line t
  pub alone : (u : Terms) → Lets login by line u → u ≡ t

pub record HasBoth (login : UserLogin) (by : Credential) : Type 0 where
  pub lines : login.lines ≡ restrict_line ∷ key_line ∷ []
  pub first : LetsAlone login by restrict_line restricted
  pub second : LetsAlone login by key_line no_terms

-- What is promised of a grant is promised of both. The older one takes the grant's line on its terms
-- but for tunnels, and on no more: all its terms are not as told.
abbrev pub Restricted : Type 0
Restricted = ((login : UserLogin) (by : Credential) (g : UserGrant) → HasBoth login by → IsAsStrict login by g → TakesFirst (λ t. t) takes_all login.lines g.line (terms_of g.terms))
    × ((login : UserLogin) (by : Credential) (g : UserGrant) → HasBoth login by → IsAsStrict login by g → TakesFirst but_tunnels leaves_tunnels login.lines g.line (terms_of g.terms))
    × ((login : UserLogin) (by : Credential) → HasBoth login by → TakesAsTold (Lets login by) (MayLet login by) login.lines (λ t. t) leaves_tunnels → ⊥)
