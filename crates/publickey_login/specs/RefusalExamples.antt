-- Worked examples of which line says why nothing lets in, and of what may be offered
-- (auth2-pubkeyfile.c of OpenSSH; RFC 4252, section 7).
use Rattle.std.specs.Prelude.{◌≡◌, List, ℕ, [], ◌∷◌, Bool, true, false, Option, Some, None, Ok, Err, codes}
use Rattle.login_policy.specs.Examples.{fields}
use Rattle.login_policy.specs.declared.refusal.LoginRefusal.TheVariants.{Invalid}
use Rattle.sshkey_cert.specs.declared.certificate.refusal.CertificateRefusal.TheVariants.{Signature}
use Rattle.sshkey_model.specs.Certificates.{Certificate}
use Rattle.sshkey_model.specs.Keys.{Key}
use Rattle.sshkey_model.specs.Verification.{Question}
use Rattle.user_keys.specs.UserLogins.{UserLogin}
use Rattle.user_keys.specs.declared.refusal.Reason.{Reason}
use Rattle.user_keys.specs.declared.refusal.Reason.TheVariants.{Elsewhere, Expired}
use Rattle.user_keys.specs.declared.refusal.UserRefusal.TheVariants as why
use Rattle.publickey_login.specs.LoginExamples.{trusting_all, certificate, login, nobodys, trusting}
use Rattle.publickey_login.specs.Grants.{MayOffer}
use Rattle.publickey_login.specs.Sources.{Files, InCertificate, Login, Read, Unreadable, AuthorityLine, KeyLine, PrincipalLine, Sought, user_of}
use Rattle.publickey_login.specs.Results.{Decides, authority_in, client_in, decides_alone, grant_in}
use Rattle.publickey_login.specs.Stops.{IsCertificateRefused, IsKeyRefused, IsUnread, IsWhy, PrincipalsRefuseFirst, RefusesFirst, refusal_at, refusal_for, source_in}
use Rattle.publickey_login.specs.declared.grant.Source.{Source}
use Rattle.publickey_login.specs.declared.grant.Source.TheVariants as source
use Rattle.publickey_login.specs.declared.pending_login.Answers.{Answers}
use Rattle.publickey_login.specs.declared.pending_login.Pending.{Pending}
use Rattle.publickey_login.specs.declared.refusal.PublickeyRefusal.TheVariants as refusal
use Rattle.publickey_login.specs.declared.search.LineRefusal.{LineRefusal}
use Rattle.publickey_login.specs.declared.search.TextList.TheVariants as list

-- ---- what ends the search

abbrev Passes : List ℕ → Type 0
Passes text = text ≡ codes "passes"

-- The first text that could not be read ends it, if those before it are passed over.
abbrev pub UnreadTexts : Type 0
UnreadTexts = IsUnread Passes (Unreadable ∷ Unreadable ∷ []) 0
    × IsUnread Passes (Read (codes "passes") ∷ Unreadable ∷ []) 1
    × ¬ IsUnread Passes (Unreadable ∷ Unreadable ∷ []) 1
    × ¬ IsUnread Passes (Read (codes "lets") ∷ Unreadable ∷ []) 1
    × ¬ IsUnread Passes (Read (codes "passes") ∷ []) 0
    × ¬ IsUnread Passes (Read (codes "passes") ∷ []) 1

-- It is named by its like and its number, and a line that cannot be told by its own number, too.
abbrev pub Ends : Type 0
Ends = (refusal_at (source_in list.AuthorizedKeys 1) (Some 3) ≡ refusal.Unclear (source.AuthorizedKeys 1) 3)
    × (refusal_at (source_in list.Principals 2) None ≡ refusal.Unreadable (source.Principals 2))
    × (refusal_at (source_in list.Command 0) (Some 1) ≡ refusal.Unclear (source.Command 0) 1)

-- ---- several texts

-- One text refuses by its third line, which is over, and the other by its first, which is for other
-- places.
pub record Refuse (u : UserLogin) (s t : Sought) (over elsewhere : List ℕ) : Type 0 where
  pub third : IsWhy u s over (why.NotAllowed 3 Expired)
  pub first : IsWhy u t elsewhere (why.NotAllowed 1 Elsewhere)

abbrev pub at : Source → ℕ → Reason → Option LineRefusal
at from line reason = Some (record { source = from; line = line; reason = reason })

-- The first text with a line for the key says why, by its own number and line.
abbrev pub FirstRefusals : Type 0
FirstRefusals = (u : UserLogin) (k : Key) (over elsewhere : List ℕ) → Refuse u (KeyLine k) (KeyLine k) over elsewhere →
    RefusesFirst u (KeyLine k) list.AuthorizedKeys (Read [] ∷ Read over ∷ Read elsewhere ∷ []) (at (source.AuthorizedKeys 1) 3 Expired)
    × RefusesFirst u (KeyLine k) list.Command (Read elsewhere ∷ Read over ∷ []) (at (source.Command 0) 1 Elsewhere)
    × RefusesFirst u (KeyLine k) list.AuthorizedKeys (Read [] ∷ []) None
    × ¬ RefusesFirst u (KeyLine k) list.AuthorizedKeys (Read over ∷ []) None
    × ((x : LineRefusal) → RefusesFirst u (KeyLine k) list.AuthorizedKeys (Read over ∷ Read elsewhere ∷ []) (Some x) → (x.source ≡ source.AuthorizedKeys 0) × IsWhy u (KeyLine k) over (why.NotAllowed x.line x.reason))

-- Of principals it says so whatever stands after it, which is not asked; without a file nothing does.
abbrev pub PrincipalRefusals : Type 0
PrincipalRefusals = (l : Login) (c : Certificate) (over elsewhere : List ℕ) → Refuse (user_of l) (PrincipalLine c) (PrincipalLine c) over elsewhere →
    PrincipalsRefuseFirst l c (Files (Read over ∷ Unreadable ∷ [])) (at (source.Principals 0) 3 Expired)
    × PrincipalsRefuseFirst l c (Files (Read elsewhere ∷ Read over ∷ [])) (at (source.Principals 0) 1 Elsewhere)
    × PrincipalsRefuseFirst l c InCertificate None
    × ((x : LineRefusal) → ¬ PrincipalsRefuseFirst l c InCertificate (Some x))

-- After a text that refuses a principal none of its like is asked.
abbrev pub DecidesAlone : Type 0
DecidesAlone = (k : Key) (c : Certificate) → (decides_alone (KeyLine k) ≡ false) × (decides_alone (AuthorityLine c) ≡ false) × (decides_alone (PrincipalLine c) ≡ true)

-- ---- all that the server trusts

-- The files say why before the command's texts; nothing is listed only where no text has a line.
abbrev pub RefusedKeys : Type 0
RefusedKeys = (k : Key) (over elsewhere : List ℕ) → Refuse (user_of trusting_all) (KeyLine k) (KeyLine k) over elsewhere →
    IsKeyRefused (login (trusting (Read over ∷ []) InCertificate (Read elsewhere ∷ []))) k (refusal.NotAllowed (source.AuthorizedKeys 0) 3 Expired)
    × IsKeyRefused (login (trusting (Read [] ∷ []) InCertificate (Read elsewhere ∷ []))) k (refusal.NotAllowed (source.Command 0) 1 Elsewhere)
    × IsKeyRefused (login (trusting (Read [] ∷ []) InCertificate [])) k refusal.NotListed
    × ¬ IsKeyRefused (login (trusting [] InCertificate (Read over ∷ []))) k refusal.NotListed
    × (refusal_for None ≡ refusal.NotListed)

-- The texts of principals say why after the files and before the command's, where the authority is
-- trusted.
abbrev pub RefusedCertificates : Type 0
RefusedCertificates = (over elsewhere : List ℕ) → Refuse (user_of trusting_all) (PrincipalLine certificate) (AuthorityLine certificate) over elsewhere →
    IsCertificateRefused (login (trusting [] (Files (Read over ∷ [])) (Read elsewhere ∷ []))) certificate (refusal.NotAllowed (source.Principals 0) 3 Expired)
    × IsCertificateRefused (login (trusting (Read elsewhere ∷ []) (Files (Read over ∷ [])) [])) certificate (refusal.NotAllowed (source.AuthorizedKeys 0) 1 Elsewhere)
    × IsCertificateRefused (login (record (trusting [] (Files (Read over ∷ [])) (Read elsewhere ∷ [])) { authorities = [] })) certificate (refusal.NotAllowed (source.Command 0) 1 Elsewhere)
    × IsCertificateRefused trusting_all nobodys refusal.NotListed
    × ¬ IsCertificateRefused (login (record (trusting [] (Files (Read over ∷ [])) []) { authorities = [] })) certificate (refusal.NotAllowed (source.Principals 0) 3 Expired)

-- ---- offers

abbrev pub named : Login → List ℕ → Login
named l name = record l { offer = record l.offer { algorithm = Some name } }

-- A revoked key may not be offered, nor a key by the name of another algorithm. Nothing is asked about
-- the client's signature.
abbrev pub Offers : Type 0
Offers = ((accepts : Question → Bool) (l : Login) (may : MayOffer accepts (record l { revokes_key = λ key. true })) → may.1.authority ≡ None → ⊥)
    × ((accepts : Question → Bool) (l : Login) (may : MayOffer accepts (named l (codes "ssh-rsa"))) → may.1.pending.key ≡ fields.key → ⊥)
    × ((accepts : Question → Bool) (l : Login) (may : MayOffer accepts l) → may.1.client ≡ None)

-- ---- the answers

abbrev answers : Bool → Bool → Answers
answers authority client = record { authority = authority; client = client }

-- What is not asked needs no answer, and what is asked needs one that says yes: the authority's is
-- said first.
abbrev pub Decisions : Type 0
Decisions = ((p : Pending) → authority_in p ≡ None → client_in p ≡ None → Decides p (answers false false) (Ok (grant_in p)))
    × ((p : Pending) (q : Option Question) → authority_in p ≡ Some q → ¬ Decides p (answers false true) (Ok (grant_in p)))
    × ((p : Pending) (q : Option Question) → client_in p ≡ Some q → ¬ Decides p (answers true false) (Ok (grant_in p)))
    × ((p : Pending) (q : Option Question) → authority_in p ≡ Some q → Decides p (answers false false) (Err (refusal.Certificate (Invalid Signature))))
    × ((p : Pending) (q : Option Question) → client_in p ≡ Some q → Decides p (answers true false) (Err refusal.NotSigned))
