-- Why a login is refused: what is wrong first.
use Rattle.std.specs.Prelude.{◌≡◌, ◌⊎◌, ℕ, zero, suc, List, [], ◌∷◌, Bool, IsTrue, Option, Some, None, false, true}
use Rattle.std.specs.Option.{option_or}
use Rattle.login_policy.specs.Refusals.{RefusesLogin}
use Rattle.login_policy.specs.declared.refusal.LoginRefusal.{LoginRefusal}
use Rattle.login_policy.specs.declared.refusal.LoginRefusal.TheVariants.{Invalid}
use Rattle.openssh_limits.specs.Limits.{openssh_accepts_key}
use Rattle.sshkey_base.specs.Reading.{NoSpelling}
use Rattle.sshkey_base.specs.declared.error.Error.{Error}
use Rattle.sshkey_cert.specs.declared.certificate.refusal.CertificateRefusal.TheVariants.{Signature}
use Rattle.sshkey_krl.specs.Revocations.{is_key_revoked}
use Rattle.sshkey_model.specs.Certificates.{Certificate, SpellsCertificate}
use Rattle.sshkey_model.specs.Keys.{Key, SpellsKey}
use Rattle.sshkey_model.specs.Refusals.{has_trusted_authority}
use Rattle.sshkey_model.specs.Verification.{Question}
use Rattle.sshkey_userauth.specs.declared.judgement.name.KeyForm.{KeyForm}
use Rattle.user_keys.specs.Answers.{IsWhyNoLine}
use Rattle.user_keys.specs.Principals.{IsWhyUndecided}
use Rattle.user_keys.specs.UserLogins.{OfCertificate, OfKey, UserLogin}
use Rattle.user_keys.specs.declared.refusal.Reason.{Reason}
use Rattle.user_keys.specs.declared.refusal.UserRefusal.{UserRefusal}
use Rattle.user_keys.specs.declared.refusal.UserRefusal.TheVariants as why
use Rattle.publickey_login.specs.Grants.{Grants, IsAnswered, IsPending, policy_login, required_of}
use Rattle.publickey_login.specs.Sources.{Files, InCertificate, Login, Principals, Read, Text, Unreadable, ArePassed, AuthorityLine, Found, GoesOn, IsOfFirst, KeyLine, Passes, PrincipalLine, Sought, in_principals, in_text, AuthorityGoesOn, FilesGoOn, IsCertificateSource, authorities_of, user_of}
use Rattle.publickey_login.specs.Signatures.{IsWhyUnsigned, Signed}
use Rattle.publickey_login.specs.declared.grant.PublickeyGrant.{PublickeyGrant}
use Rattle.publickey_login.specs.declared.grant.Source.{Source}
use Rattle.publickey_login.specs.declared.grant.Source.TheVariants as source
use Rattle.publickey_login.specs.declared.refusal.PublickeyRefusal.{PublickeyRefusal}
use Rattle.publickey_login.specs.declared.refusal.PublickeyRefusal.TheVariants as refusal
use Rattle.publickey_login.specs.declared.search.LineRefusal.{LineRefusal}
use Rattle.publickey_login.specs.declared.search.TextList.{TextList}
use Rattle.publickey_login.specs.declared.search.TextList.TheVariants as list

-- ---- what stops a search

-- why no line of the text lets in
abbrev pub IsWhy : UserLogin → Sought → List ℕ → UserRefusal → Type 0
IsWhy u (KeyLine k) text r = IsWhyNoLine (in_text u text) (OfKey k) r
IsWhy u (AuthorityLine c) text r = IsWhyNoLine (in_text u text) (OfCertificate c) r
IsWhy u (PrincipalLine c) text r = IsWhyUndecided (in_principals u text) c r

-- Whether the line of that number lets in cannot be told.
abbrev pub IsUnclearBy : UserLogin → Sought → List ℕ → ℕ → Type 0
IsUnclearBy u s text line = IsWhy u s text (why.Unclear line)

-- The text of that number could not be read, and those before it are passed over.
unfoldable pub IsUnread : (List ℕ → Type 0) → List Text → ℕ → Type 0
IsUnread Passes [] number = ⊥
IsUnread Passes (Unreadable ∷ rest) zero = Unit {0}
IsUnread Passes (Unreadable ∷ rest) (suc number) = ⊥
IsUnread Passes (Read text ∷ rest) zero = ⊥
IsUnread Passes (Read text ∷ rest) (suc number) = Passes text × IsUnread Passes rest number

-- The first text that is not passed over is the one of that number, and cannot be told, by that
-- line, or not be read.
abbrev pub IsStopped : UserLogin → Sought → List Text → ℕ → Option ℕ → Type 0
IsStopped u s texts number (Some line) = IsOfFirst (λ text. IsUnclearBy u s text line) (Passes u s) texts number
IsStopped u s texts number None = IsUnread (Passes u s) texts number

abbrev pub source_in : TextList → ℕ → Source
source_in list.AuthorizedKeys n = source.AuthorizedKeys n
source_in list.Principals n = source.Principals n
source_in list.Command n = source.Command n

abbrev pub refusal_at : Source → Option ℕ → PublickeyRefusal
refusal_at s (Some line) = refusal.Unclear s line
refusal_at s None = refusal.Unreadable s

abbrev pub IsWhyStopped : UserLogin → Sought → TextList → List Text → PublickeyRefusal → Type 0
IsWhyStopped u s of texts r = (number : ℕ) × (line : Option ℕ) × IsStopped u s texts number line × (r ≡ refusal_at (source_in of number) line)

-- ---- what refuses first, where nothing lets in

-- No line of the text is for it.
abbrev pub HasNone : UserLogin → Sought → List ℕ → Type 0
HasNone u s text = IsWhy u s text why.NotListed

-- Each line of the text that is for it refuses: that one first, for that reason.
abbrev pub RefusesWith : UserLogin → Sought → ℕ → Reason → List ℕ → Type 0
RefusesWith u s line reason text = IsWhy u s text (why.NotAllowed line reason)

-- Of the texts the first that has a line for it refuses with that one; or none has any.
abbrev pub RefusesFirst : UserLogin → Sought → TextList → List Text → Option LineRefusal → Type 0
RefusesFirst u s of texts (Some x) = (number : ℕ) × (x.source ≡ source_in of number) × IsOfFirst (RefusesWith u s x.line x.reason) (HasNone u s) texts number
RefusesFirst u s of texts None = ArePassed (HasNone u s) texts

-- The same of texts of principals, which are asked where the authority is trusted.
abbrev pub PrincipalsRefuseFirst : Login → Certificate → Principals → Option LineRefusal → Type 0
PrincipalsRefuseFirst l c InCertificate first = first ≡ None
PrincipalsRefuseFirst l c (Files texts) first = RefusesFirst (user_of l) (PrincipalLine c) list.Principals texts first

abbrev pub AuthorityRefusesFirst : Login → Certificate → Option LineRefusal → Type 0
AuthorityRefusesFirst l c first = ((has_trusted_authority l.trusted.authorities c ≡ false) × (first ≡ None))
    ⊎ (IsTrue (has_trusted_authority l.trusted.authorities c) × PrincipalsRefuseFirst l c l.trusted.principals first)

-- what is said where that refuses first
abbrev pub refusal_for : Option LineRefusal → PublickeyRefusal
refusal_for (Some x) = refusal.NotAllowed x.source x.line x.reason
refusal_for None = refusal.NotListed

-- Of the files and the command's texts what refuses the key first says why.
abbrev pub IsKeyRefused : Login → Key → PublickeyRefusal → Type 0
IsKeyRefused l k r = (files : Option LineRefusal) × (command : Option LineRefusal)
    × RefusesFirst (user_of l) (KeyLine k) list.AuthorizedKeys l.trusted.authorized_keys files
    × RefusesFirst (user_of l) (KeyLine k) list.Command l.trusted.command_keys command
    × (r ≡ refusal_for (option_or files command))

-- The same of a certificate, with the texts of principals between them.
abbrev pub IsCertificateRefused : Login → Certificate → PublickeyRefusal → Type 0
IsCertificateRefused l c r = (files : Option LineRefusal) × (authority : Option LineRefusal) × (command : Option LineRefusal)
    × RefusesFirst (user_of l) (AuthorityLine c) list.AuthorizedKeys l.trusted.authorized_keys files
    × AuthorityRefusesFirst l c authority
    × RefusesFirst (user_of l) (AuthorityLine c) list.Command l.trusted.command_keys command
    × (r ≡ refusal_for (option_or files (option_or authority command)))

-- ---- no source

-- The files or the command's texts stop the search; or nothing does, and nothing lets the key in.
abbrev pub IsWhyNoKeySource : Login → Key → PublickeyRefusal → Type 0
IsWhyNoKeySource l k r = IsWhyStopped (user_of l) (KeyLine k) list.AuthorizedKeys l.trusted.authorized_keys r
    ⊎ (GoesOn (user_of l) (KeyLine k) l.trusted.authorized_keys × IsWhyStopped (user_of l) (KeyLine k) list.Command l.trusted.command_keys r)
    ⊎ (GoesOn (user_of l) (KeyLine k) l.trusted.authorized_keys × GoesOn (user_of l) (KeyLine k) l.trusted.command_keys × IsKeyRefused l k r)

-- The authority is trusted, and its texts of principals stop the search.
abbrev pub IsWhyNoAuthority : Login → Certificate → PublickeyRefusal → Type 0
IsWhyNoAuthority l c r = IsTrue (has_trusted_authority l.trusted.authorities c) × ((texts : List Text) × (l.trusted.principals ≡ Files texts) × IsWhyStopped (user_of l) (PrincipalLine c) list.Principals texts r)

abbrev pub IsWhyNoSource : Login → Certificate → PublickeyRefusal → Type 0
IsWhyNoSource l c r = IsWhyStopped (user_of l) (AuthorityLine c) list.AuthorizedKeys l.trusted.authorized_keys r
    ⊎ (FilesGoOn l c × IsWhyNoAuthority l c r)
    ⊎ (FilesGoOn l c × AuthorityGoesOn l c × IsWhyStopped (user_of l) (AuthorityLine c) list.Command l.trusted.command_keys r)
    ⊎ (FilesGoOn l c × AuthorityGoesOn l c × GoesOn (user_of l) (AuthorityLine c) l.trusted.command_keys × IsCertificateRefused l c r)

-- ---- nothing is granted

-- sshd does not accept the key; or it is revoked; or nothing lets it in.
abbrev pub IsWhyNoKey : Login → Key → PublickeyRefusal → Type 0
IsWhyNoKey l k r = ((openssh_accepts_key l.trusted.least_rsa_bits k ≡ false) × (r ≡ refusal.UnacceptedKey))
    ⊎ (IsTrue (openssh_accepts_key l.trusted.least_rsa_bits k) × (is_key_revoked l.revokes_key k ≡ true) × (r ≡ refusal.Revoked))
    ⊎ (IsTrue (openssh_accepts_key l.trusted.least_rsa_bits k) × (is_key_revoked l.revokes_key k ≡ false) × IsWhyNoKeySource l k r)

-- A source lets the certificate in for a name, and the policy of certificates refuses.
abbrev pub IsRefusedByPolicy : Login → Certificate → PublickeyRefusal → Type 0
IsRefusedByPolicy l c r = (s : Source) × (f : Found) × IsCertificateSource l c s f × ((e : LoginRefusal) × RefusesLogin (policy_login l c (authorities_of l c s) f.name) e × (r ≡ refusal.Certificate e))

-- sshd does not accept the authority's key; or nothing lets the certificate in; or it is refused.
abbrev pub IsWhyNoCertificate : Login → Certificate → PublickeyRefusal → Type 0
IsWhyNoCertificate l c r = ((openssh_accepts_key 0 c.signed.signature_key ≡ false) × (r ≡ refusal.UnacceptedKey))
    ⊎ (IsTrue (openssh_accepts_key 0 c.signed.signature_key) × (IsWhyNoSource l c r ⊎ IsRefusedByPolicy l c r))

-- The bytes are no key and no certificate; or one of both, and nothing is granted.
abbrev pub IsWhyNothing : Login → PublickeyRefusal → Type 0
IsWhyNothing l r = (NoSpelling SpellsKey l.offer.blob × NoSpelling SpellsCertificate l.offer.blob × ((e : Error) × (r ≡ refusal.NoKey e)))
    ⊎ ((k : Key) × SpellsKey k l.offer.blob × IsWhyNoKey l k r)
    ⊎ ((c : Certificate) × SpellsCertificate c l.offer.blob × IsWhyNoCertificate l c r)

-- ---- nobody logs in

-- Nothing is granted; or something is, and the client's signature is refused before anybody is asked.
abbrev pub IsWhyNotPending : Login → Signed → PublickeyRefusal → Type 0
IsWhyNotPending l s r = IsWhyNothing l r
    ⊎ ((g : PublickeyGrant) × (authority : Option (Option Question)) × (k : Key) × (form : KeyForm) × Grants l g authority k form × IsWhyUnsigned l.offer s (required_of l.trusted.requirements g) k form r)

-- The authority's signature is none.
abbrev pub IsWhyUncertified : (Question → Bool) → Option (Option Question) → PublickeyRefusal → Type 0
IsWhyUncertified accepts authority r = (IsAnswered accepts authority → ⊥) × (r ≡ refusal.Certificate (Invalid Signature))

-- The authority's signature is none; or it is one, and the client's is none.
abbrev pub IsWhyUnanswered : (Question → Bool) → Option (Option Question) → Option (Option Question) → PublickeyRefusal → Type 0
IsWhyUnanswered accepts authority client r = IsWhyUncertified accepts authority r
    ⊎ (IsAnswered accepts authority × (IsAnswered accepts client → ⊥) × (r ≡ refusal.NotSigned))

abbrev pub IsWhyNoLogin : (Question → Bool) → Login → Signed → PublickeyRefusal → Type 0
IsWhyNoLogin accepts l s r = IsWhyNotPending l s r
    ⊎ ((g : PublickeyGrant) × (authority : Option (Option Question)) × (client : Option (Option Question)) × IsPending l s g authority client × IsWhyUnanswered accepts authority client r)
