-- What is told of a login that is pending, or is not.
use Rattle.std.proofs.Common.{◌≡◌, ◌≢◌, ◌<◌, ◌++◌, ℕ, List, Option, None, Some, Result, Ok, Err, Vec, IfErr, ap, arith, drop, inl, inr, length, option_map, refl, subst, sym, ◌∙◌, ◌≤◌, ◌↔◌, Bool, true, false, IsTrue}
use Rattle.login_policy.specs.declared.client.Client.{Client}
use Rattle.publickey_login.specs.Grants.{IsPending}
use Rattle.publickey_login.specs.Laws.{OneGrant}
use Rattle.publickey_login.specs.Sources.{Login, client_seen}
use Rattle.publickey_login.specs.Results.{authority_in, client_in, grant_in}
use Rattle.publickey_login.specs.Signatures.{Signed}
use Rattle.publickey_login.specs.declared.grant.PublickeyGrant.{PublickeyGrant}
use Rattle.publickey_login.specs.declared.pending_login.Pending.{Pending}
use Rattle.sshkey_calls.specs.Rooms.{IsLaidOut}
use Rattle.sshkey_entry_calls.specs.Revocations.{revoked_status}
use Rattle.sshkey_model.specs.Verification.{Question}
use Rattle.sshkey_c.proofs.Asked.{unmapped}
use Rattle.sshkey_c.specs.Grants.{ArePlaced, Gives, grant_bytes, no_grant}
use Rattle.sshkey_c.specs.Logins.{AreTexts, IsClientOf, IsSaidOf, Pends, Reading, login_of}
use Rattle.sshkey_c.specs.Refusals.{said}
use Rattle.sshkey_c.specs.Verdicts.{AnswersPended, AreAnswered, AreLeft, Decides, DecidesLogIn, DecidesOffer, IsAsked, IsKeptOut, IsLetIn, IsWhyUnraised, Judges, JudgesLogIn, Tells, TellsQuestions, reason_in, TellsLine}
use Rattle.sshkey_c.specs.declared.grant.GrantParts.{GrantParts}
use Rattle.sshkey_c.specs.declared.login.LoginParts.{LoginParts}
use Rattle.sshkey_c.specs.declared.questions.LoginQuestions.{LoginQuestions}
use Rattle.sshkey_c.specs.declared.refusal.Refusal.{Refusal}
use Rattle.sshkey_model.specs.Keys.{Key}
use Rattle.user_keys.specs.Lines.{IsPassedOver}
use Rattle.user_keys.specs.Spellings.{MaySpell, own_part}

pub said_so : (l : LoginParts) (d : Refusal) (One Other : Reading → Type 0) → ((r : Reading) → One r → Other r) → IsSaidOf l d One → IsSaidOf l d Other
said_so l d One Other so (inl text) = inl text
said_so l d One Other so (inr (inl none)) = inr (inl none)
said_so l d One Other so (inr (inr (texts, (r, reading, one)))) = inr (inr (texts, (r, reading, so r one)))

-- ---- what is judged

module _ (l : LoginParts) (s : Signed) (seen : Client → Client) (ticket : List ℕ) (n : ℕ) where
  pub kept_out : {A : Type 0} (Is : PublickeyGrant → A → Type 0) (c : Client) (d : Refusal) → IsClientOf l.place c → Pends l s (seen c) (Err d) → Judges l s seen ticket n Is (Err d)
  kept_out Is c d there out = λ other. (c, there, said_so l d _ _ (λ r is. record { nobody = λ g let_in. is.0 g let_in.authority let_in.client let_in.pending; first = inl is.1 }) (out other))

  module _ (one : OneGrant) (c : Client) (there : IsClientOf l.place c) (p : Pending) (pends : Pends l s (seen c) (Ok p)) where
    pub undecided : {A : Type 0} (Is : PublickeyGrant → A → Type 0) (d : Refusal) → Decides (grant_in p) (authority_in p) (client_in p) ticket n (Err d) → Judges l s seen ticket n Is (Err d)
    undecided Is d decides = λ other.
        let why = decides other in
        let r = pends.1.0 in
        let login = login_of l r (client_seen s (seen c)) in
        let nobody : (g : PublickeyGrant) → IsLetIn login s ticket n g → ⊥ = λ g is.
        let same = one login s (grant_in p) g (authority_in p) is.authority (client_in p) is.client pends.1.2 is.pending in
        why.0 (subst (λ (a : Option (Option Question)). AreAnswered ticket n a (client_in p)) same.0 (subst (λ (q : Option (Option Question)). AreAnswered ticket n is.authority q) same.1 is.answered)) in
        (c, there, inr (inr (pends.0, (r, pends.1.1, record { nobody = nobody; first = inr (grant_in p, authority_in p, client_in p, pends.1.2, why.1, why.2) }))))

    pub let_in : {A : Type 0} (Is : PublickeyGrant → A → Type 0) (g : PublickeyGrant) (x : A) → Decides (grant_in p) (authority_in p) (client_in p) ticket n (Ok g) → Is g x → Judges l s seen ticket n Is (Ok x)
    let_in Is g x decides is =
        let r = pends.1.0 in
        let login = login_of l r (client_seen s (seen c)) in
        (c, there, (pends.0, (r, pends.1.1, (g, record { authority = authority_in p; client = client_in p; pending = subst (λ (h : PublickeyGrant). IsPending login s h (authority_in p) (client_in p)) (sym decides.0) pends.1.2; answered = decides.1 }, is))))

    pub decided : (result : Result PublickeyGrant Refusal) → Decides (grant_in p) (authority_in p) (client_in p) ticket n result → Judges l s seen ticket n (λ g granted. granted ≡ g) result
    decided (Ok g) decides = let_in (λ h granted. granted ≡ h) g g decides refl
    decided (Err d) decides = undecided (λ h granted. granted ≡ h) d decides

-- ---- what is answered

module _ (l : LoginParts) (ticket : List ℕ) (answers : ℕ) (n : ℕ) (a : GrantParts) (before after : List ℕ) where
  decides : {Z : Type 0} (login : Login) (s : Signed) (of_revoked : ℕ) (g : PublickeyGrant) (laid : Vec ℕ Z × GrantParts) (content : List ℕ) (short : GrantParts) → content ≡ laid.0.items → short ≡ no_grant laid.1.length (said 2) → IsLetIn login s ticket answers g → IsLaidOut grant_bytes ArePlaced g laid.0.items laid.1 → Gives content laid.1 short n a before after → DecidesLogIn login s of_revoked ticket answers n a before after
  decides login s of_revoked g laid content short same is_short is are (inl h) = record {
    given = λ _. (g, is, record { content = subst (λ (bytes : List ℕ). after ≡ bytes ++ drop (length bytes) before) (same ∙ are.0) h.2; placed = subst (ArePlaced g) (sym h.1) are.1 });
    short = λ two. absurd (omega (arith, h.0, two));
    kept_out = λ some _. absurd (some h.0);
  }
  decides login s of_revoked g laid content short same is_short is are (inr h) =
      let none : a ≡ no_grant laid.1.length (said 2) = h.1 ∙ is_short in
      let needed : a.length ≡ laid.1.length = ap (λ (x : GrantParts). x.length) none in
      let placed = are.1 in
      record {
        given = λ zero_. absurd (omega (arith, h.0, zero_));
        short = λ _. (g, is, record { needed = needed ∙ placed.length; short = subst (λ (bytes : List ℕ). length before < length bytes) (same ∙ are.0) h.3; stays = h.2 }, none ∙ ap (λ (k : ℕ). no_grant k (said 2)) (sym needed));
        kept_out = λ _ other. absurd (other h.0);
      }

  pub given : {Z : Type 0} (signed : Option Signed) (laid : Vec ℕ Z × GrantParts) (content : List ℕ) (short : GrantParts) → content ≡ laid.0.items → short ≡ no_grant laid.1.length (said 2) → Gives content laid.1 short n a before after → JudgesLogIn {Z = Z} l ticket answers signed (Ok laid) → Tells l signed (λ c. c) (reason_in n a) (λ login s of_revoked. DecidesLogIn login s of_revoked ticket answers n a before after)
  given None laid content short same is_short gives judged = absurd judged
  given (Some s) laid content short same is_short gives (c, there, (texts, (r, reading, (g, is, are)))) = (c, there, inr (inr (texts, (r, reading, decides (login_of l r (client_seen s c)) s (revoked_status r.files) g laid content short same is_short is are gives))))

  pub refused : (Z : Type 0) (signed : Option Signed) (d : Refusal) → n ≡ d.number → a ≡ no_grant 0 d → 2 < n → JudgesLogIn {Z = Z} l ticket answers signed (Err d) → n ≢ 1 → Tells l signed (λ c. c) (reason_in n a) (λ login s of_revoked. DecidesLogIn login s of_revoked ticket answers n a before after)
  refused Z None d is none high judged other = ap (λ (m : ℕ). reason_in m a) is ∙ ap (reason_in d.number) none ∙ judged
  refused Z (Some s) d is none high judged other =
      let same : reason_in n a ≡ d = ap (λ (m : ℕ). reason_in m a) is ∙ ap (reason_in d.number) none in
      let (c, there, out) = judged (λ one. other (is ∙ one)) in
      (c, there, said_so l (reason_in n a) (λ r. IsKeptOut (login_of l r (client_seen s c)) s (revoked_status r.files) ticket answers (reason_in n a)) _ (λ r kept. record { given = λ zero_. absurd (omega (arith, high, zero_)); short = λ two. absurd (omega (arith, high, two)); kept_out = λ _ _. kept }) (subst (λ (x : Refusal). IsSaidOf l x (λ r. IsKeptOut (login_of l r (client_seen s c)) s (revoked_status r.files) ticket answers x)) (sym same) out))

-- ---- what is asked

-- Memory ran out only where the names are texts.
pub of_texts : (l : LoginParts) (s : Signed) (c : Client) (pended : Result Pending Refusal) (n : ℕ) (was a : LoginQuestions) (before after : List ℕ) → Pends l s c pended → IfErr pended (λ r. r.number ≡ 1 → AreTexts l) → AnswersPended pended n was a before after → n ≡ 1 → AreTexts l
of_texts l s c (Ok p) n was a before after pends memory answers one = pends.0
of_texts l s c (Err d) n was a before after pends memory answers one = memory (sym answers.0 ∙ one)

module _ (l : LoginParts) (s : Signed) (seen : Client → Client) (one : OneGrant) (c : Client) (there : IsClientOf l.place c) (n : ℕ) (was a : LoginQuestions) (before after : List ℕ) where
  unasked : (login : Login) (g : PublickeyGrant) (authority client : Option (Option Question)) → IsPending login s g authority client → IsWhyUnraised authority client n → (qs : _) → IsAsked login s qs → ⊥
  unasked login g authority client pending (inl (un, number)) qs (h, asked) =
      let same = one login s g h authority (option_map Some qs.authority) client (option_map Some qs.client) pending asked in
      unmapped qs.authority (sym un ∙ sym same.0)
  unasked login g authority client pending (inr (raised, un, number)) qs (h, asked) =
      let same = one login s g h authority (option_map Some qs.authority) client (option_map Some qs.client) pending asked in
      unmapped qs.client (sym un ∙ sym same.1)

  left_so : (login : Login) (g : PublickeyGrant) (authority client : Option (Option Question)) (qs : _) → IsPending login s g authority client → AreLeft authority client qs → IsAsked login s qs
  left_so login g authority client qs pending left = (g, subst (λ (x : Option (Option Question)). IsPending login s g x (option_map Some qs.client)) left.0 (subst (λ (x : Option (Option Question)). IsPending login s g authority x) left.1 pending))

  pub asked : (pended : Result Pending Refusal) → IfErr pended (λ r. r.number ≢ 1 → 2 < r.number) → Pends l s (seen c) pended → AnswersPended pended n was a before after → TellsQuestions l (Some s) seen n was a before after
  asked (Ok p) high (texts, (r, reading, pending)) answers =
      let login = login_of l r (client_seen s (seen c)) in
      record {
        asked = λ other. (
          said n,
          refl,
          (
            c,
            there,
            inr (inr (
              texts,
              (
                r,
                reading,
                record {
                  given = λ zero_. let h = answers.given zero_ in (h.0, left_so login (grant_in p) (authority_in p) (client_in p) h.0 pending h.1, h.2);
                  short = λ two. let h = answers.short two in (h.0, left_so login (grant_in p) (authority_in p) (client_in p) h.0 pending h.1, h.2, h.3);
                  nothing = λ some more. unasked login (grant_in p) (authority_in p) (client_in p) pending (answers.unraised some other more);
                  first = λ some more. (said n, refl, inr (grant_in p, authority_in p, client_in p, pending, answers.unraised some other more, refl));
                },
              ),
            )),
          ),
        );
        stays = answers.stays;
      }
  asked (Err d) high out (is, same, stays) =
      record {
        asked = λ other.
            let not_memory : d.number ≢ 1 = λ memory. other (is ∙ memory) in
            let above = high not_memory in (
              d,
              sym is,
              (
                c,
                there,
                said_so l d _ _ (λ r so. record {
                  given = λ zero_. absurd (omega (arith, is, above, zero_));
                  short = λ two. absurd (omega (arith, is, above, two));
                  nothing = λ _ _ qs asked_so. so.0 asked_so.0 (option_map Some qs.authority) (option_map Some qs.client) asked_so.1;
                  first = λ _ _. (d, sym is, inl so.1);
                }) (out not_memory),
              ),
            );
        stays = λ _ _. (same, stays);
      }

-- ---- what is answered to a query

module _ (l : LoginParts) (s : Signed) (seen : Client → Client) (ticket : List ℕ) (answers : ℕ) where
  pub offered : (g : PublickeyGrant) → Judges l s seen ticket answers (λ h granted. granted ≡ h) (Ok g) → Tells l (Some s) seen (said 0) (λ login x of_revoked. DecidesOffer login x of_revoked ticket answers (said 0))
  offered g (c, there, (texts, (r, reading, (h, is, same)))) = (c, there, inr (inr (texts, (r, reading, record { given = λ _. (h, is); kept_out = λ some. absurd (some refl) }))))

  pub not_offered : (d : Refusal) → 2 < d.number → d.number ≢ 1 → Judges l s seen ticket answers (λ h granted. granted ≡ h) (Err d) → Tells l (Some s) seen d (λ login x of_revoked. DecidesOffer login x of_revoked ticket answers d)
  not_offered d high other judged =
      let (c, there, out) = judged other in
      (c, there, said_so l d _ _ (λ r kept. record { given = λ zero_. absurd (omega (arith, high, zero_)); kept_out = λ _. kept }) out)

-- What is told of a line.

module _ (k : Key) (line : List ℕ) where
  -- 1 is memory
  pub no_memory : TellsLine k line 1
  no_memory = record { may = λ none. absurd (omega (arith, none)); passed = λ three. absurd (omega (arith, three)); none = λ three. absurd (omega (arith, three)); others = λ some. absurd (some refl) }

  module _ (b : Bool) (spelled : 17 ≤ length (own_part k) → IsTrue b ↔ MaySpell (own_part k) line) where
    pub it_may : b ≡ true → TellsLine k line 0
    it_may said = record { may = λ _ long. (spelled long).0 said; passed = λ three. absurd (omega (arith, three)); none = λ three. absurd (omega (arith, three)); others = λ _. inl refl }

    pub is_passed : b ≡ false → IsPassedOver k line → TellsLine k line 3
    is_passed off passed = record { may = λ none. absurd (omega (arith, none)); passed = λ _. passed; none = λ _ long may. cc (sym off ∙ (spelled long).1 may); others = λ _. inr refl }
