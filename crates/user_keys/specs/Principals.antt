-- The lines of the text that AuthorizedPrincipalsFile names (sshd_config(5)): each is a name, which
-- options may precede, as those of authorized_keys.
use Rattle.std.specs.Prelude.{◌≡◌, ◌≢◌, ◌⊎◌, ℕ, List, [], ◌∷◌, ◌++◌, ◌<◌, Bool, true, false, ◌&&◌, ◌==◌, not, if◌then◌else◌, length, reverse, slice_index, IsTrue, Option, Some, None, Result, Ok, Err}
use Rattle.std.specs.List.{before_first, list_any, slice_split, Any}
use Rattle.std.specs.Str.{IsUtf8}
use Rattle.std.specs.Str.Lines.{lines}
use Rattle.login_terms.specs.Options.{Terms, terms_of}
use Rattle.sshkey_entries.specs.Entries.{is_hash}
use Rattle.sshkey_entries.specs.Fields.{without_blanks, EndsOptions}
use Rattle.sshkey_model.specs.Certificates.{Certificate}
use Rattle.user_keys.specs.Certificates.{is_listed, agree, judged_by}
use Rattle.user_keys.specs.Lines.{before_zero, AreTerms, MayBeTerms}
use denote.Ref.{Bor}
use Rattle.login_policy.specs.KnownOptions.{force_command}
use Rattle.sshkey_krl.specs.Revocation as krl
use Rattle.sshkey_model.specs.Fingerprints.{Fingerprint}
use Rattle.sshkey_model.specs.OptionMaps.{value_of}
use Rattle.sshkey_model.specs.Verification.{Question}
use Rattle.user_keys.specs.CertificateLogins.{AdmitsBy, CertificateLogin, IsAsStrictBy, IsWhyRefusedBy, NeedsMemoryBy}
use Rattle.user_keys.specs.UserLogins.{EndsBy, IsFirst, LetsFirst, UserLogin, login_of}
use Rattle.user_keys.specs.Judgements.{Judges}
use Rattle.user_keys.specs.declared.answer.Judgement.{Judgement}
use Rattle.user_keys.specs.declared.answer.Judgement.TheVariants.{Allows, Refuses, Unclear}
use Rattle.user_keys.specs.declared.grant.UserGrant.{UserGrant}
use Rattle.user_keys.specs.declared.login.UserLogin as code
use Rattle.user_keys.specs.declared.principal.Decision.{Decision}
use Rattle.user_keys.specs.declared.refusal.Reason.{Reason}
use Rattle.user_keys.specs.declared.refusal.Reason.TheVariants.{MisplacedOption}
use Rattle.user_keys.specs.declared.refusal.UserRefusal.{UserRefusal}
use Rattle.user_keys.specs.declared.refusal.UserRefusal.TheVariants as refusal

-- a line feed alone divides them: a carriage return belongs to a name
abbrev pub is_feed : ℕ → Bool
is_feed c = c == 0x0a

abbrev pub lines_at_feeds : List ℕ → List (List ℕ)
lines_at_feeds text = slice_split is_feed text

-- the line up to a `#`, also one within quotes, without the spaces and tabs at its front
abbrev pub entry_in : List ℕ → List ℕ
entry_in line = without_blanks (before_first is_hash (before_zero line))

-- the text without the spaces and tabs at its end
abbrev pub trimmed : List ℕ → List ℕ
trimmed text = reverse (without_blanks (reverse text))

-- ---- the name

-- what stands after the last character that passes the test, or all
unfoldable pub after_last : (ℕ → Bool) → List ℕ → List ℕ
after_last is [] = []
after_last is (c ∷ text) = if list_any is (c ∷ text) then after_last is text else c ∷ text

abbrev pub is_space : ℕ → Bool
is_space c = c == 0x20

abbrev pub is_tab : ℕ → Bool
is_tab c = c == 0x09

-- after the last space, or else after the last tab
abbrev pub last_word : List ℕ → List ℕ
last_word text = if list_any is_space text then without_blanks (after_last is_space text) else after_last is_tab text

abbrev pub name_in : List ℕ → List ℕ
name_in line = last_word (trimmed (entry_in line))

-- ---- the options

-- They end at the first space or tab outside quotes, or with the text.
abbrev pub AreFrontOptions : List ℕ → List ℕ → Type 0
AreFrontOptions text options = ((rest : List ℕ) × (text ≡ options ++ rest) × EndsOptions text (length options))
    ⊎ (((place : ℕ) → EndsOptions text place → ⊥) × (options ≡ text))

-- A name that is all of the line has none before it.
abbrev pub AreOptionsIn : List ℕ → List ℕ → Type 0
AreOptionsIn line options = ((length (name_in line) ≡ length (trimmed (entry_in line))) × (options ≡ []))
    ⊎ ((length (name_in line) ≢ length (trimmed (entry_in line))) × AreFrontOptions (entry_in line) options)

-- Those of a line that is UTF-8 up to a `#`; those of another are not read here.
abbrev pub HasOptions : List ℕ → Option (List ℕ) → Type 0
HasOptions line None = ¬ IsUtf8 (entry_in line)
HasOptions line (Some options) = IsUtf8 (entry_in line) × AreOptionsIn line options

-- ---- a line and a certificate

-- The certificate lists the name. An empty name, as a comment has, is nobody's.
abbrev pub is_principal : Certificate → List ℕ → Bool
is_principal c name = not (length name == 0) && is_listed c.signed.valid_principals name

abbrev pub names_principal : Certificate → List ℕ → Bool
names_principal c line = is_principal c (name_in line)

-- The name is that of a principal of the certificate, and the options say that.
abbrev pub DecidesBy : Certificate → List ℕ → Option (List ℕ) → Terms → Type 0
DecidesBy c name None t = ⊥
DecidesBy c name (Some options) t = IsTrue (is_principal c name) × AreTerms options t

-- It is one, and sshd may read the options: as what cannot be told, or as what is no UTF-8.
abbrev pub MayDecideBy : Certificate → List ℕ → Option (List ℕ) → Type 0
MayDecideBy c name None = IsTrue (is_principal c name)
MayDecideBy c name (Some options) = IsTrue (is_principal c name) × MayBeTerms options

abbrev pub Decides : Certificate → List ℕ → Terms → Type 0
Decides c line t = (options : Option (List ℕ)) × HasOptions line options × DecidesBy c (name_in line) options t

abbrev pub MayDecide : Certificate → List ℕ → Type 0
MayDecide c line = (options : Option (List ℕ)) × HasOptions line options × MayDecideBy c (name_in line) options

-- ---- how a line is taken apart

-- what stands before the first such byte, and what after it, if there is one
abbrev pub SplitsAt : ℕ → List ℕ → Option (Bor (List ℕ) × Bor (List ℕ)) → Type 0
SplitsAt c text None = (k : ℕ) → k < length text → slice_index text k ≢ c
SplitsAt c text (Some x) = (text ≡ x.0.now ++ (c ∷ x.1.now)) × ((k : ℕ) → k < length x.0.now → slice_index x.0.now k ≢ c)

-- the first line as of authorized_keys, and what follows it, of a text that is not empty
abbrev pub TakesLine : List ℕ → Option (Bor (List ℕ) × Bor (List ℕ)) → Type 0
TakesLine text None = lines text ≡ []
TakesLine text (Some x) = (lines text ≡ x.0.now ∷ lines x.1.now) × (length x.1.now < length text)

-- the first line, and what follows its feed, if there is one
abbrev pub SplitsLine : List ℕ → List ℕ → Option (Bor (List ℕ)) → Type 0
SplitsLine text line None = lines_at_feeds text ≡ line ∷ []
SplitsLine text line (Some rest) = (lines_at_feeds text ≡ line ∷ lines_at_feeds rest.now) × (length rest.now < length text)

-- the text without the space or the tab at its end
abbrev pub DropsLast : List ℕ → Option (Bor (List ℕ)) → Type 0
DropsLast text None = trimmed text ≡ text
DropsLast text (Some front) = (trimmed text ≡ trimmed front.now) × (length front.now < length text)

-- what stands after the last that passes the test, if one does
abbrev pub FindsLast : (ℕ → Bool) → List ℕ → Option (Bor (List ℕ)) → Type 0
FindsLast is text None = list_any is text ≡ false
FindsLast is text (Some rest) = (list_any is text ≡ true) × (rest.now ≡ after_last is text)

-- Who may log in by a certificate of an authority of TrustedUserCAKeys, where AuthorizedPrincipalsFile
-- names a text (sshd_config(5)): the first line that names a principal of the certificate decides,
-- and if it refuses no other lets in.

-- that of a call, whose text is one of principals
abbrev pub login_in_place : code.UserLogin → UserLogin
login_in_place l = record (login_of l) { lines = lines_at_feeds l.text.now }

abbrev pub principal_login : code.UserLogin → List ℕ → (Question → Bool) → (List ℕ → krl.CertificateIdentity → Bool) → CertificateLogin
principal_login l blob accepts revokes = record { login = login_in_place l; blob = blob; accepts = accepts; revokes = revokes }

-- ---- the line that decides

-- It is the first line that names a principal of the certificate, which is that name, on those terms.
abbrev pub DecidesFirst : Certificate → List (List ℕ) → ℕ → Terms → List ℕ → Type 0
DecidesFirst c lines number t name = (first : LetsFirst (Decides c) (MayDecide c) lines number t) × (name ≡ name_in first.line)

-- What follows for terms that are judged so alone: no authority has a place there, and where there
-- are two commands they are the same.
abbrev pub judged_in_place : Certificate → Terms → Judgement → Judgement
judged_in_place c t j = if t.is_authority then Refuses MisplacedOption else judged_by (agree t.command (value_of force_command c.signed.critical_options)) true j

-- The terms say that of the login by the certificate.
abbrev pub JudgesPrincipal : UserLogin → Certificate → Terms → Judgement → Type 0
JudgesPrincipal login c t j = (alone : Judgement) × Judges t login.time login.client login.host alone × (j ≡ judged_in_place c t alone)

-- The terms refuse it.
abbrev pub RefusesPrincipal : UserLogin → Certificate → Terms → Type 0
RefusesPrincipal login c t = (reason : Reason) × JudgesPrincipal login c t (Refuses reason)

abbrev pub IsPrincipalLine : UserLogin → Certificate → ℕ → Terms → List ℕ → Type 0
IsPrincipalLine login c number t name = DecidesFirst c login.lines number t name × JudgesPrincipal login c t Allows

-- ---- who is let in

abbrev pub AdmitsPrincipal : CertificateLogin → List Fingerprint → UserGrant → Type 0
AdmitsPrincipal l authorities g = AdmitsBy (IsPrincipalLine l.login) (λ c. authorities) l g

abbrev pub IsAsStrictInPlace : CertificateLogin → UserGrant → Type 0
IsAsStrictInPlace l g = IsAsStrictBy Decides MayDecide l g

-- ---- who is refused

-- No line names a principal of the certificate; or whether the first that may do so counts cannot be
-- told.
abbrev pub IsWhyNoDecision : Certificate → List (List ℕ) → UserRefusal → Type 0
IsWhyNoDecision c lines r = ((¬ Any (EndsBy (Decides c) (MayDecide c)) lines) × (r ≡ refusal.NotListed))
    ⊎ ((line : List ℕ) × (n : ℕ) × IsFirst (EndsBy (Decides c) (MayDecide c)) lines line n × MayDecide c line × (r ≡ refusal.Unclear n))

-- The terms of the line with that number refuse for that, or whether they do cannot be told.
abbrev pub IsWhyNotAllowed : UserLogin → Certificate → ℕ → Terms → UserRefusal → Type 0
IsWhyNotAllowed login c n t r = ((reason : Reason) × JudgesPrincipal login c t (Refuses reason) × (r ≡ refusal.NotAllowed n reason)) ⊎ (JudgesPrincipal login c t Unclear × (r ≡ refusal.Unclear n))

-- No line decides; or one does, and its terms do not allow the login.
abbrev pub IsWhyUndecided : UserLogin → Certificate → UserRefusal → Type 0
IsWhyUndecided login c r = IsWhyNoDecision c login.lines r
    ⊎ ((n : ℕ) × (t : Terms) × (name : List ℕ) × DecidesFirst c login.lines n t name × IsWhyNotAllowed login c n t r)

abbrev pub IsWhyNoPrincipal : CertificateLogin → List Fingerprint → UserRefusal → Type 0
IsWhyNoPrincipal l authorities r = IsWhyRefusedBy (IsWhyUndecided l.login) (IsPrincipalLine l.login) (λ c. authorities) l r

-- A line names a principal of the certificate.
abbrev pub NeedsMemoryInPlace : CertificateLogin → Type 0
NeedsMemoryInPlace l = NeedsMemoryBy (λ c line. IsTrue (names_principal c line)) l

-- ---- what is found of a text

-- The line that decides; or that cannot be told, or no line does.
abbrev pub FindsDecision : Certificate → List (List ℕ) → Result Decision UserRefusal → Type 0
FindsDecision c lines (Ok d) = DecidesFirst c lines d.first.line (terms_of d.first.terms) d.name.now × (d.first.certified ≡ None)
FindsDecision c lines (Err r) = r ≢ refusal.Memory → IsWhyNoDecision c lines r

-- The terms of that line allow the certificate; or why not.
abbrev pub ChecksTerms : UserLogin → Certificate → ℕ → Terms → Result Unit UserRefusal → Type 0
ChecksTerms login c n t (Ok u) = JudgesPrincipal login c t Allows
ChecksTerms login c n t (Err r) = r ≢ refusal.Memory → IsWhyNotAllowed login c n t r
