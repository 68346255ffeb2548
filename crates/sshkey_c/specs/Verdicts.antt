-- What has to be verified of a login.
use Rattle.std.specs.Prelude.{◌≡◌, ◌≢◌, ◌⊎◌, ℕ, ◌+◌, List, [], ◌++◌, length, Option, Some, None, is_some, option_map, Result, Ok, Err, Vec, ◌≤◌, ◌==◌, not, bit_and}
use Rattle.std.specs.Int.{to_be_bytes, w32, w64}
use Rattle.sshkey_calls.specs.Numbers.{algorithm_number}
use Rattle.sshkey_calls.specs.Signatures.{AddsQuestion, ArePlacedFrom, question_bytes}
use Rattle.sshkey_calls.specs.Rooms.{IsLaidOut, IsAtFront, LacksRoom}
use Rattle.sshkey_calls.specs.declared.question.Question as code
use Rattle.sshkey_model.specs.Fingerprints.{digest}
use Rattle.sshkey_model.specs.Keys.{normal_key, Key}
use Rattle.sshkey_model.specs.Names.{Sha256}
use Rattle.sshkey_model.specs.Parts.{flat}
use Rattle.sshkey_model.specs.Verification.{Question}
use Rattle.openssh_limits.specs.Padding.{padded_blob}
use Rattle.sshkey_c.specs.Grants.{bit, no_part, ArePlaced, grant_bytes, no_grant}
use Rattle.sshkey_c.specs.Refusals.{said, refusal_of}
use Rattle.sshkey_c.specs.declared.questions.LoginQuestions.{LoginQuestions}
use Rattle.sshkey_c.specs.declared.refusal.Refusal.{Refusal}
use Rattle.user_keys.specs.Lines.{IsPassedOver}
use Rattle.user_keys.specs.Spellings.{MaySpell, own_part}
use Rattle.login_policy.specs.declared.client.Client.{Client}
use Rattle.publickey_login.specs.Grants.{IsPending}
use Rattle.publickey_login.specs.Sources.{Login, client_known, client_seen}
use Rattle.publickey_login.specs.Results.{IsYes, authority_in, client_in}
use Rattle.publickey_login.specs.Signatures.{BySshd, Signed}
use Rattle.publickey_login.specs.Stops.{IsWhyNotPending}
use Rattle.publickey_login.specs.declared.grant.PublickeyGrant.{PublickeyGrant}
use Rattle.publickey_login.specs.declared.pending_login.Answers.{Answers}
use Rattle.publickey_login.specs.declared.pending_login.Pending.{Pending}
use Rattle.publickey_login.specs.declared.refusal.PublickeyRefusal.{PublickeyRefusal}
use Rattle.sshkey_entry_calls.specs.Revocations.{revoked_status}
use Rattle.sshkey_c.specs.Logins.{AreTexts, IsClientOf, IsReadingOf, IsSaidOf, Reading, login_of, signed_in}
use Rattle.sshkey_c.specs.declared.grant.GrantParts.{GrantParts}
use Rattle.sshkey_c.specs.declared.login.LoginParts.{LoginParts}

-- ---- the questions of the authority and of the client, each if it is asked

pub record Questions : Type 0 where
  pub authority : Option Question
  pub client : Option Question

abbrev pub asked_bytes : Option Question → List ℕ
asked_bytes None = []
asked_bytes (Some q) = question_bytes q

abbrev pub questions_bytes : Questions → List ℕ
questions_bytes qs = asked_bytes qs.authority ++ asked_bytes qs.client

-- ---- the ticket

-- the algorithm and the lengths of the parts
abbrev pub lengths : ℕ → ℕ → ℕ → ℕ → List ℕ
lengths algorithm key message signature = to_be_bytes w32 algorithm ++ (to_be_bytes w64 key ++ (to_be_bytes w64 message ++ to_be_bytes w64 signature))

abbrev pub asked_lengths : Option Question → List ℕ
asked_lengths None = lengths 0 0 0 0
asked_lengths (Some q) = lengths (algorithm_number q.algorithm) (length (flat (normal_key q.key))) (length q.message) (length (padded_blob q.key q.blob))

abbrev pub ticket_bytes : Questions → List ℕ
ticket_bytes qs = asked_lengths qs.authority ++ (asked_lengths qs.client ++ questions_bytes qs)

-- It names both questions: a digest of what is asked about them.
abbrev pub ticket_of : Questions → List ℕ
ticket_of qs = digest Sha256 (ticket_bytes qs)

-- ---- where they stand

abbrev pub no_question : code.Question
no_question = record { key = no_part; message = no_part; signature = no_part; length = 0; algorithm = 0 }

-- a question that is asked has its parts from there on, and else there are none
abbrev pub AreAskedFrom : ℕ → Option Question → code.Question → Type 0
AreAskedFrom start None parts = parts ≡ no_question
AreAskedFrom start (Some q) parts = ArePlacedFrom start q parts

pub record AreAsked (qs : Questions) (answer : LoginQuestions) : Type 0 where
  pub authority : AreAskedFrom 0 qs.authority answer.authority
  pub client : AreAskedFrom (length (asked_bytes qs.authority)) qs.client answer.client
  pub length : answer.length ≡ length (questions_bytes qs)
  pub ticket : answer.ticket.bytes ≡ ticket_of qs
  pub asked : answer.asked ≡ bit 1 (is_some qs.authority) + bit 2 (is_some qs.client)

-- ---- how they are laid out

-- the answer's own account of it
abbrev pub head : code.Question → List ℕ
head parts = lengths parts.algorithm parts.key.length parts.message.length parts.signature.length

-- something is asked, and key and signature do not go together
abbrev pub IsUnraised : Option (Option Question) → Type 0
IsUnraised asked = asked ≡ Some None

abbrev pub AddsAsked : Option (Option Question) → code.Question → List ℕ → List ℕ → Type 0
AddsAsked None parts before after = (parts ≡ no_question) × (after ≡ before)
AddsAsked (Some None) parts before after = ⊥
AddsAsked (Some (Some q)) parts before after = AddsQuestion q parts before after

-- What is asked is raised, and laid out; or it is not, for the authority's first.
abbrev pub LaysOutQuestions : {Z : Type 0} → Option (Option Question) → Option (Option Question) → Result (Vec ℕ Z × LoginQuestions) Refusal → Type 0
LaysOutQuestions authority client (Ok laid) = (qs : Questions) × (authority ≡ option_map Some qs.authority) × (client ≡ option_map Some qs.client) × IsLaidOut questions_bytes AreAsked qs laid.0.items laid.1
LaysOutQuestions authority client (Err d) = d.number ≢ 1 → (IsUnraised authority × (d ≡ said 30)) ⊎ (¬ IsUnraised authority × IsUnraised client × (d ≡ said 84))

-- What is answered of a line of authorized_keys and a key.

-- 3 says that sshd surely does not take the line for one of the key, and that the key is not spelled
-- in it, whatever its options say; 0 that it may be, or is too short for that to be told; 1 is memory.
pub record TellsLine (k : Key) (line : List ℕ) (n : ℕ) : Type 0 where
  pub may : n ≡ 0 → 17 ≤ length (own_part k) → MaySpell (own_part k) line
  pub passed : n ≡ 3 → IsPassedOver k line
  pub none : n ≡ 3 → 17 ≤ length (own_part k) → MaySpell (own_part k) line → ⊥
  pub others : n ≢ 1 → (n ≡ 0) ⊎ (n ≡ 3)

-- What is answered of a login by public key, and of a query without a signature.

-- ---- the answers

-- 1 says that the authority's question was answered yes, 2 the client's, and 3 both
abbrev pub answers_in : ℕ → Answers
answers_in n = record { authority = not (bit_and n 1 == 0); client = not (bit_and n 2 == 0) }

-- These questions are left.
abbrev pub AreLeft : Option (Option Question) → Option (Option Question) → Questions → Type 0
AreLeft authority client qs = (authority ≡ option_map Some qs.authority) × (client ≡ option_map Some qs.client)

-- The questions that are left are those of the ticket, and each was answered yes.
pub record AreAnswered (ticket : List ℕ) (n : ℕ) (authority client : Option (Option Question)) : Type 0 where
  pub questions : Questions
  pub left : AreLeft authority client questions
  pub named : ticket ≡ ticket_of questions
  pub certified : IsYes authority (answers_in n).authority
  pub signed : IsYes client (answers_in n).client

-- A question that is asked is not raised, the authority's before the client's.
abbrev pub IsWhyUnraised : Option (Option Question) → Option (Option Question) → ℕ → Type 0
IsWhyUnraised authority client number = (IsUnraised authority × (number ≡ 30)) ⊎ (¬ IsUnraised authority × IsUnraised client × (number ≡ 84))

-- Or the ticket is of other questions; or the answer is not yes, to the authority's before the client's.
abbrev pub IsWhyUnanswered : List ℕ → ℕ → Option (Option Question) → Option (Option Question) → ℕ → Type 0
IsWhyUnanswered ticket n authority client number = IsWhyUnraised authority client number
    ⊎ ((qs : Questions) × AreLeft authority client qs
    × (((ticket ≢ ticket_of qs) × (number ≡ 106))
    ⊎ ((ticket ≡ ticket_of qs) × ¬ IsYes authority (answers_in n).authority × (number ≡ 30))
    ⊎ ((ticket ≡ ticket_of qs) × IsYes authority (answers_in n).authority × ¬ IsYes client (answers_in n).client × (number ≡ 84))))

abbrev pub Decides : PublickeyGrant → Option (Option Question) → Option (Option Question) → List ℕ → ℕ → Result PublickeyGrant Refusal → Type 0
Decides granted authority client ticket n (Ok g) = (g ≡ granted) × AreAnswered ticket n authority client
Decides granted authority client ticket n (Err d) = d.number ≢ 1 → ¬ AreAnswered ticket n authority client × IsWhyUnanswered ticket n authority client d.number × (d ≡ said d.number)

-- ---- what is said of the login that is read

-- Memory aside, with 104 nobody has seen the signature; or it is said as of the login that is read.
abbrev pub Tells : LoginParts → Option Signed → (Client → Client) → Refusal → (Login → Signed → ℕ → Type 0) → Type 0
Tells l None seen d Says = d ≡ said 104
Tells l (Some s) seen d Says = (c : Client) × IsClientOf l.place c × IsSaidOf l d (λ r. Says (login_of l r (client_seen s (seen c))) s (revoked_status r.files))

-- Something but the signatures is wrong; or all else is right, and a question is open for that.
abbrev pub IsWhyOut : Login → Signed → ℕ → (Option (Option Question) → Option (Option Question) → ℕ → Type 0) → Refusal → Type 0
IsWhyOut login s of_revoked IsWhyOpen d = ((r : PublickeyRefusal) × IsWhyNotPending login s r × (d ≡ refusal_of of_revoked r))
    ⊎ ((g : PublickeyGrant) × (authority : Option (Option Question)) × (client : Option (Option Question)) × IsPending login s g authority client × IsWhyOpen authority client d.number × (d ≡ said d.number))

-- ---- the login

-- All is right, and each question is answered: this is granted.
pub record IsLetIn (login : Login) (s : Signed) (ticket : List ℕ) (answers : ℕ) (g : PublickeyGrant) : Type 0 where
  pub authority : Option (Option Question)
  pub client : Option (Option Question)
  pub pending : IsPending login s g authority client
  pub answered : AreAnswered ticket answers authority client

-- Nobody is, for that.
pub record IsKeptOut (login : Login) (s : Signed) (of_revoked : ℕ) (ticket : List ℕ) (answers : ℕ) (d : Refusal) : Type 0 where
  pub nobody : (g : PublickeyGrant) → IsLetIn login s ticket answers g → ⊥
  pub first : IsWhyOut login s of_revoked (IsWhyUnanswered ticket answers) d

-- what an answer says beside its number
abbrev pub reason_in : ℕ → GrantParts → Refusal
reason_in n a = record { number = n; source = a.source; text = a.text; line = a.line }

-- With 0 the answer is the grant, whose bytes are at the front of the room. With 2 the room is too
-- short for them, and nothing is granted. With every other number nobody is let in.
pub record DecidesLogIn (login : Login) (s : Signed) (of_revoked : ℕ) (ticket : List ℕ) (answers : ℕ) (n : ℕ) (a : GrantParts) (before after : List ℕ) : Type 0 where
  pub given : n ≡ 0 → (g : PublickeyGrant) × IsLetIn login s ticket answers g × IsAtFront (grant_bytes g) (ArePlaced g a) before after
  pub short : n ≡ 2 → (g : PublickeyGrant) × IsLetIn login s ticket answers g × LacksRoom (grant_bytes g) a.length before after × (a ≡ no_grant a.length (said 2))
  pub kept_out : n ≢ 0 → n ≢ 2 → IsKeptOut login s of_revoked ticket answers (reason_in n a)

abbrev pub TellsLogIn : LoginParts → List ℕ → ℕ → ℕ → GrantParts → List ℕ → List ℕ → Type 0
TellsLogIn l ticket answers n a before after = n ≢ 1 → Tells l (signed_in l.signed_by) (λ c. c) (reason_in n a) (λ login s of_revoked. DecidesLogIn login s of_revoked ticket answers n a before after)

-- ---- its questions

-- All is right but the signatures, and these questions are left.
abbrev pub IsAsked : Login → Signed → Questions → Type 0
IsAsked login s qs = (g : PublickeyGrant) × IsPending login s g (option_map Some qs.authority) (option_map Some qs.client)

-- With 0 they are the answer, and their bytes are at the front of the room. With 2 the room is too
-- short for them. With every other number something else is wrong, or a question is not raised.
pub record AsksLogIn (login : Login) (s : Signed) (of_revoked : ℕ) (n : ℕ) (a : LoginQuestions) (before after : List ℕ) : Type 0 where
  pub given : n ≡ 0 → (qs : Questions) × IsAsked login s qs × IsAtFront (questions_bytes qs) (AreAsked qs a) before after
  pub short : n ≡ 2 → (qs : Questions) × IsAsked login s qs × LacksRoom (questions_bytes qs) a.length before after × AreAsked qs a
  pub nothing : n ≢ 0 → n ≢ 2 → (qs : Questions) → IsAsked login s qs → ⊥
  pub first : n ≢ 0 → n ≢ 2 → (d : Refusal) × (d.number ≡ n) × IsWhyOut login s of_revoked IsWhyUnraised d

-- memory aside; with every number but 0 and 2 the answer and the room stay as they were
pub record TellsQuestions (l : LoginParts) (signed : Option Signed) (seen : Client → Client) (n : ℕ) (was a : LoginQuestions) (before after : List ℕ) : Type 0 where
  pub asked : n ≢ 1 → (d : Refusal) × (d.number ≡ n) × Tells l signed seen d (λ login s of_revoked. AsksLogIn login s of_revoked n a before after)
  pub stays : n ≢ 0 → n ≢ 2 → (a ≡ was) × (after ≡ before)

abbrev pub TellsLogInQuestions : LoginParts → ℕ → LoginQuestions → LoginQuestions → List ℕ → List ℕ → Type 0
TellsLogInQuestions l n was a before after = TellsQuestions l (signed_in l.signed_by) (λ c. c) n was a before after

-- ---- a query

-- As where sshd verifies the signature, about which nothing is asked; but no address is left to the
-- caller.
abbrev pub TellsOfferQuestions : LoginParts → ℕ → LoginQuestions → LoginQuestions → List ℕ → List ℕ → Type 0
TellsOfferQuestions l n was a before after = TellsQuestions l (Some BySshd) client_known n was a before after

-- With 0 whoever signs is let in; with every other number nobody is.
pub record DecidesOffer (login : Login) (s : Signed) (of_revoked : ℕ) (ticket : List ℕ) (answers : ℕ) (d : Refusal) : Type 0 where
  pub given : d.number ≡ 0 → (g : PublickeyGrant) × IsLetIn login s ticket answers g
  pub kept_out : d.number ≢ 0 → IsKeptOut login s of_revoked ticket answers d

abbrev pub TellsOffer : LoginParts → List ℕ → ℕ → ℕ → Type 0
TellsOffer l ticket answers n = n ≢ 1 → (d : Refusal) × (d.number ≡ n) × Tells l (Some BySshd) client_known d (λ login s of_revoked. DecidesOffer login s of_revoked ticket answers d)

-- ---- how it is judged

-- What is left is laid out; or a question is not raised.
pub record AnswersHeld (authority client : Option (Option Question)) (n : ℕ) (was a : LoginQuestions) (before after : List ℕ) : Type 0 where
  pub given : n ≡ 0 → (qs : Questions) × AreLeft authority client qs × IsAtFront (questions_bytes qs) (AreAsked qs a) before after
  pub short : n ≡ 2 → (qs : Questions) × AreLeft authority client qs × LacksRoom (questions_bytes qs) a.length before after × AreAsked qs a
  pub unraised : n ≢ 0 → n ≢ 1 → n ≢ 2 → IsWhyUnraised authority client n
  pub stays : n ≢ 0 → n ≢ 2 → (a ≡ was) × (after ≡ before)

abbrev pub AnswersPended : Result Pending Refusal → ℕ → LoginQuestions → LoginQuestions → List ℕ → List ℕ → Type 0
AnswersPended (Ok p) n was a before after = AnswersHeld (authority_in p) (client_in p) n was a before after
AnswersPended (Err d) n was a before after = (n ≡ d.number) × (a ≡ was) × (after ≡ before)

-- Who is let in is granted what was laid out of it; or nobody is, memory aside.
abbrev pub Judges : {A : Type 0} → LoginParts → Signed → (Client → Client) → List ℕ → ℕ → (PublickeyGrant → A → Type 0) → Result A Refusal → Type 0
Judges l s seen ticket answers Is (Ok x) = (c : Client) × IsClientOf l.place c × (AreTexts l × ((r : Reading) × IsReadingOf l r × ((g : PublickeyGrant) × IsLetIn (login_of l r (client_seen s (seen c))) s ticket answers g × Is g x)))
Judges l s seen ticket answers Is (Err d) = d.number ≢ 1 → (c : Client) × IsClientOf l.place c × IsSaidOf l d (λ r. IsKeptOut (login_of l r (client_seen s (seen c))) s (revoked_status r.files) ticket answers d)

abbrev pub JudgesLogIn : {Z : Type 0} → LoginParts → List ℕ → ℕ → Option Signed → Result (Vec ℕ Z × GrantParts) Refusal → Type 0
JudgesLogIn l ticket answers None (Ok laid) = ⊥
JudgesLogIn l ticket answers None (Err d) = d ≡ said 104
JudgesLogIn l ticket answers (Some s) result = Judges l s (λ c. c) ticket answers (λ g laid. IsLaidOut grant_bytes ArePlaced g laid.0.items laid.1) result
