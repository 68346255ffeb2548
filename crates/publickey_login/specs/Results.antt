-- What calls give.
use Rattle.std.specs.Prelude.{◌≡◌, ◌≢◌, ◌⊎◌, ℕ, List, [], Bool, true, false, IsTrue, Option, Some, None, option_map, Result, Ok, Err}
use Rattle.login_policy.specs.declared.refusal.LoginRefusal.{LoginRefusal}
use Rattle.login_policy.specs.declared.refusal.LoginRefusal.TheVariants as policy
use Rattle.login_policy.specs.declared.refusal.LoginRefusal.TheVariants.{Invalid}
use Rattle.openssh_limits.specs.Limits.{openssh_accepts_key}
use Rattle.sshkey_cert.specs.Validity.{certificate_question}
use Rattle.sshkey_cert.specs.declared.certificate.refusal.CertificateRefusal.TheVariants.{Signature}
use Rattle.sshkey_keys.specs.Keys.{key_of}
use Rattle.sshkey_keys.specs.Questions.{asks}
use Rattle.sshkey_model.specs.Certificates.{Certificate, IsCertificate, SpellsCertificate}
use Rattle.sshkey_model.specs.Keys.{IsKey, Key, SpellsKey}
use Rattle.sshkey_model.specs.Verification.{Question}
use Rattle.sshkey_userauth.specs.declared.judgement.name.KeyForm.TheVariants.{Certified, Plain}
use Rattle.user_keys.specs.Certificates.{name_listed}
use Rattle.user_keys.specs.UserLogins.{UserLogin}
use Rattle.user_keys.specs.UserLogins as users
use Rattle.user_keys.specs.declared.grant.NamedLine.{NamedLine}
use Rattle.user_keys.specs.declared.login.UserLogin as code
use Rattle.user_keys.specs.declared.refusal.UserRefusal.{UserRefusal}
use Rattle.user_keys.specs.declared.refusal.UserRefusal.TheVariants as why
use Rattle.publickey_login.specs.Grants.{Grants, GrantsCertificate, GrantsKey, IsAnswered, IsPending}
use Rattle.publickey_login.specs.Sources.{Login, Text, AuthorityLine, Found, GoesOn, IsFoundBy, IsFoundIn, KeyLine, PrincipalLine, Sought, by_lines, AuthorityGoesOn, IsListed, IsOfAuthority, user_of}
use Rattle.publickey_login.specs.Stops.{AuthorityRefusesFirst, HasNone, IsUnclearBy, IsWhy, IsWhyNoAuthority, IsWhyNoCertificate, IsWhyNoKey, IsWhyNothing, IsWhyStopped, IsWhyUnanswered, RefusesFirst, RefusesWith, source_in}
use Rattle.publickey_login.specs.Signatures.{Signed}
use Rattle.publickey_login.specs.Values.{found_of, trusted_of}
use Rattle.publickey_login.specs.declared.grant.PublickeyGrant.{PublickeyGrant}
use Rattle.publickey_login.specs.declared.grant.Source.{Source}
use Rattle.publickey_login.specs.declared.grant.Source.TheVariants as source
use Rattle.publickey_login.specs.declared.held.Held.{Held}
use Rattle.publickey_login.specs.declared.pending_login.Answers.{Answers}
use Rattle.publickey_login.specs.declared.pending_login.Pending.{Pending}
use Rattle.publickey_login.specs.declared.refusal.PublickeyRefusal.{PublickeyRefusal}
use Rattle.publickey_login.specs.declared.refusal.PublickeyRefusal.TheVariants as refusal
use Rattle.publickey_login.specs.declared.search.Origin.{Origin}
use Rattle.publickey_login.specs.declared.search.SourceVerdict.{SourceVerdict}
use Rattle.publickey_login.specs.declared.search.SourceVerdict.TheVariants as sources
use Rattle.publickey_login.specs.declared.search.TextList.{TextList}
use Rattle.publickey_login.specs.declared.search.TextVerdict.{TextVerdict}
use Rattle.publickey_login.specs.declared.search.TextVerdict.TheVariants as verdict
use Rattle.publickey_login.specs.declared.trusted.Trusted.{Trusted}

-- ---- a text

-- the login that lines are asked about, whatever text it holds
abbrev pub asked_of : code.UserLogin → UserLogin
asked_of u = by_lines (users.login_of u) []

-- sshd accepts the key whose lines are sought.
abbrev pub CanSeek : code.UserLogin → Sought → Type 0
CanSeek login (KeyLine k) = IsKey k × IsTrue (openssh_accepts_key login.least_rsa_bits k)
CanSeek login (AuthorityLine c) = IsCertificate c × IsTrue (openssh_accepts_key 0 c.signed.signature_key)
CanSeek login (PrincipalLine c) = Unit {0}

-- Why the policy of certificates refuses, or memory ran out.
abbrev pub IsPolicyRefusal : LoginRefusal → PublickeyRefusal → Type 0
IsPolicyRefusal p r = ((p ≡ policy.Memory) × (r ≡ refusal.Memory)) ⊎ ((p ≢ policy.Memory) × (r ≡ refusal.Certificate p))

abbrev pub FindsText : UserLogin → Sought → List ℕ → Result NamedLine UserRefusal → Type 0
FindsText u s text (Ok line) = IsFoundBy u s text (found_of line)
FindsText u s text (Err r) = r ≢ why.Memory → IsWhy u s text r × ((f : Found) → IsFoundBy u s text f → ⊥)

-- For a principal the first text that has a line decides.
abbrev pub decides_alone : Sought → Bool
decides_alone (KeyLine k) = false
decides_alone (AuthorityLine c) = false
decides_alone (PrincipalLine c) = true

abbrev pub SearchesText : UserLogin → Sought → Source → List ℕ → Result TextVerdict PublickeyRefusal → Type 0
SearchesText u s from text (Ok (verdict.Lets line)) = IsFoundBy u s text (found_of line)
SearchesText u s from text (Ok (verdict.Refuses x)) = (x.source ≡ from) × RefusesWith u s x.line x.reason text
SearchesText u s from text (Ok verdict.Passes) = HasNone u s text
SearchesText u s from text (Err r) = r ≢ refusal.Memory → (line : ℕ) × IsUnclearBy u s text line × (r ≡ refusal.Unclear from line)

-- ---- several texts

abbrev pub SearchesIn : UserLogin → Sought → TextList → List Text → Result SourceVerdict PublickeyRefusal → Type 0
SearchesIn u s of texts (Ok (sources.Lets o)) = (n : ℕ) × (o.source ≡ source_in of n) × IsFoundIn u s texts n (found_of o.line)
SearchesIn u s of texts (Ok (sources.Passes first)) = GoesOn u s texts × RefusesFirst u s of texts first
SearchesIn u s of texts (Err r) = r ≢ refusal.Memory → IsWhyStopped u s of texts r

-- ---- all that the server trusts

-- The login that lines are asked about is this one's, by those whom the server trusts.
pub record AsksOf (l : Login) (u : code.UserLogin) (t : Trusted) : Type 0 where
  pub user : asked_of u ≡ user_of l
  pub trusted : trusted_of t ≡ l.trusted

-- It is that source; or there is none for that, out of memory aside.
abbrev pub Originates : (Source → Found → Type 0) → (PublickeyRefusal → Type 0) → Result Origin PublickeyRefusal → Type 0
Originates Is IsWhyNone (Ok o) = Is o.source (found_of o.line)
Originates Is IsWhyNone (Err r) = r ≢ refusal.Memory → IsWhyNone r

-- The same of the certificate alone.
abbrev pub OwnOrigin : List ℕ → Certificate → Result SourceVerdict PublickeyRefusal → Type 0
OwnOrigin user c (Ok (sources.Lets o)) = (o.source ≡ source.Authority) × IsListed user c (found_of o.line)
OwnOrigin user c (Ok (sources.Passes first)) = (name_listed c.signed.valid_principals user None ≡ None) × (first ≡ None)
OwnOrigin user c (Err r) = r ≡ refusal.Memory

-- The same of the authorities; or what comes after them is asked.
abbrev pub OriginatesBy : Login → Certificate → Result SourceVerdict PublickeyRefusal → Type 0
OriginatesBy l c (Ok (sources.Lets o)) = IsOfAuthority l c o.source (found_of o.line)
OriginatesBy l c (Ok (sources.Passes first)) = AuthorityGoesOn l c × AuthorityRefusesFirst l c first
OriginatesBy l c (Err r) = r ≢ refusal.Memory → IsWhyNoAuthority l c r

-- ---- the login

-- It is granted; or it is not, for that, out of memory aside.
abbrev pub HoldsExactly : Login → Result Held PublickeyRefusal → Type 0
HoldsExactly l (Ok h) = Grants l h.grant (option_map asks h.authority) (key_of h.key) h.form
HoldsExactly l (Err r) = r ≢ refusal.Memory → IsWhyNothing l r

-- The same of a key, and of a certificate.
abbrev pub KeyHolds : Login → Result Held PublickeyRefusal → Type 0
KeyHolds l (Ok h) = GrantsKey l (key_of h.key) h.grant × (h.authority ≡ None) × (h.form ≡ Plain)
KeyHolds l (Err r) = r ≢ refusal.Memory → (k : Key) × SpellsKey k l.offer.blob × IsWhyNoKey l k r

abbrev pub CertificateHolds : Login → Result Held PublickeyRefusal → Type 0
CertificateHolds l (Ok h) = (c : Certificate) × GrantsCertificate l c h.grant × (key_of h.key ≡ c.signed.key) × (option_map asks h.authority ≡ Some (certificate_question c)) × (h.form ≡ Certified)
CertificateHolds l (Err r) = r ≢ refusal.Memory → (c : Certificate) × SpellsCertificate c l.offer.blob × IsWhyNoCertificate l c r

-- what it holds
abbrev pub grant_in : Pending → PublickeyGrant
grant_in p = p.grant

abbrev pub authority_in : Pending → Option (Option Question)
authority_in p = option_map asks p.authority

abbrev pub client_in : Pending → Option (Option Question)
client_in p = option_map asks p.client

-- Out of memory aside, Ok exactly if all is right but the signatures, and then with their questions.
abbrev pub PendsExactly : Login → Signed → Result Pending PublickeyRefusal → Type 0
PendsExactly l s (Ok p) = IsPending l s (grant_in p) (authority_in p) (client_in p)
PendsExactly l s (Err r) = r ≢ refusal.Memory → (g : PublickeyGrant) (authority client : Option (Option Question)) → IsPending l s g authority client → ⊥

-- Who logs in is granted that.
abbrev pub GrantsExactly : (PublickeyGrant → Type 0) → Result PublickeyGrant PublickeyRefusal → Type 0
GrantsExactly Is (Ok g) = Is g
GrantsExactly Is (Err r) = r ≢ refusal.Memory → (g : PublickeyGrant) → Is g → ⊥

-- The answer to a query is yes exactly if whoever signs is let in, out of memory aside.
abbrev pub OffersExactly : Type 0 → Result (Unit {0}) PublickeyRefusal → Type 0
OffersExactly Is (Ok u) = Is
OffersExactly Is (Err r) = r ≢ refusal.Memory → Is → ⊥

-- ---- the answers

-- The answer to a question that was asked is yes; what was not asked needs none.
abbrev pub IsYes : Option (Option Question) → Bool → Type 0
IsYes None answer = Unit {0}
IsYes (Some asked) answer = answer ≡ true

-- With yes to what is asked the login is granted, and else nothing: the authority's is said first.
abbrev pub Decides : Pending → Answers → Result PublickeyGrant PublickeyRefusal → Type 0
Decides p a (Ok g) = (g ≡ grant_in p) × IsYes (authority_in p) a.authority × IsYes (client_in p) a.client
Decides p a (Err r) = ((IsYes (authority_in p) a.authority → ⊥) × (r ≡ refusal.Certificate (Invalid Signature))) ⊎ (IsYes (authority_in p) a.authority × (IsYes (client_in p) a.client → ⊥) × (r ≡ refusal.NotSigned))

-- Out of memory aside, that verifier's answers decide.
abbrev pub DecidesBy : (Question → Bool) → Pending → Result PublickeyGrant PublickeyRefusal → Type 0
DecidesBy accepts p (Ok g) = (g ≡ grant_in p) × IsAnswered accepts (authority_in p) × IsAnswered accepts (client_in p)
DecidesBy accepts p (Err r) = r ≢ refusal.Memory → IsWhyUnanswered accepts (authority_in p) (client_in p) r
