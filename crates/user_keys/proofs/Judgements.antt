-- What a line says of a login is one thing.
use denote.Ref.{Bor}
use Rattle.std.proofs.Common.{◌≡◌, ◌∙◌, ℕ, List, Bool, true, false, Option, ap, inl, inr, refl, subst, sym}
use Rattle.std.specs.declared.net.ip_addr.IpAddr.{IpAddr}
use Rattle.login_terms.specs.Options.{Terms, terms_of}
use Rattle.login_terms.specs.declared.terms.Terms as code
use Rattle.user_keys.specs.Answers.{FollowsFrom, SaysOf}
use Rattle.user_keys.specs.Judgements.{CountsAt, Judges, LetsFrom, NamesInVain, joined}
use Rattle.user_keys.specs.Certificates.{judged_with}
use Rattle.user_keys.specs.Lines.{MayBeFor}
use Rattle.user_keys.specs.UserLogins.{Credential, Ends, IsListedBy, IsOwn, JudgesLogin, JudgesWith, Lets, MayLet, OfCertificate, OfKey, UserLogin, listed_key}
use Rattle.user_keys.specs.declared.answer.Answer.{Answer}
use Rattle.user_keys.specs.declared.answer.Answer.TheVariants.{Yes, No, Unclear}
use Rattle.user_keys.specs.declared.answer.Judgement.{Judgement}
use Rattle.user_keys.specs.declared.answer.Judgement.TheVariants as judgement
use Rattle.user_keys.specs.declared.answer.LineVerdict.{LineVerdict}
use Rattle.user_keys.specs.declared.refusal.Reason.{Reason}
use Rattle.user_keys.specs.declared.refusal.Reason.TheVariants as reason
use Rattle.user_keys.proofs.Places.{one_place, one_time}

-- ---- what is joined

yes_no : Yes ≡ No → ⊥
yes_no e = cc

unclear_no : Unclear ≡ No → ⊥
unclear_no e = cc

yes_unclear : Yes ≡ Unclear → ⊥
yes_unclear e = cc

module _ (t : Terms) (time : ℕ) (client : Option IpAddr) (host : Option (Bor (List ℕ))) where
  later : (a : Answer) → (a ≡ No → ⊥) → CountsAt t.expires time a → CountsAt t.expires time No → ⊥
  later a other counts over = other (one_time t.expires time a No counts over)

  elsewhere : (a : Answer) → (a ≡ No → ⊥) → LetsFrom t.from client host a → LetsFrom t.from client host No → ⊥
  elsewhere a other lets refused = other (one_place t.from client host a No lets refused)

  -- neither is no
  both : (b : Bool) (c : Answer) → ((b ≡ true) → NamesInVain t) → (NamesInVain t → b ≡ true) → LetsFrom t.from client host c → (a : Answer) → (a ≡ No → ⊥) → CountsAt t.expires time a → Judges t time client host (joined a b c)
  both true c vain in_vain lets Yes other counts = (later Yes other counts, vain refl)
  both true c vain in_vain lets Unclear other counts = (later Unclear other counts, vain refl)
  both false No vain in_vain lets Yes other counts = (later Yes other counts, (λ v. let e : false ≡ true = in_vain v in cc), lets)
  both false No vain in_vain lets Unclear other counts = (later Unclear other counts, (λ v. let e : false ≡ true = in_vain v in cc), lets)
  both false Yes vain in_vain lets Yes other counts = (counts, (λ v. let e : false ≡ true = in_vain v in cc), lets)
  both false Yes vain in_vain lets Unclear other counts = (later Unclear other counts, (λ v. let e : false ≡ true = in_vain v in cc), elsewhere Yes yes_no lets, inl counts)
  both false Unclear vain in_vain lets Yes other counts = (later Yes other counts, (λ v. let e : false ≡ true = in_vain v in cc), elsewhere Unclear unclear_no lets, inr lets)
  both false Unclear vain in_vain lets Unclear other counts = (later Unclear other counts, (λ v. let e : false ≡ true = in_vain v in cc), elsewhere Unclear unclear_no lets, inl counts)
  both b c vain in_vain lets No other counts = absurd (other refl)

  pub judged : (a : Answer) (b : Bool) (c : Answer) → CountsAt t.expires time a → ((b ≡ true) → NamesInVain t) → (NamesInVain t → b ≡ true) → LetsFrom t.from client host c → Judges t time client host (joined a b c)
  judged No b c counts vain in_vain lets = counts
  judged Yes b c counts vain in_vain lets = both b c vain in_vain lets Yes yes_no counts
  judged Unclear b c counts vain in_vain lets = both b c vain in_vain lets Unclear unclear_no counts

  -- ---- one judgement

  allows_refuses : (r : Reason) → Judges t time client host judgement.Allows → Judges t time client host (judgement.Refuses r) → ⊥
  allows_refuses reason.Expired allows refused = later Yes yes_no allows.0 refused
  allows_refuses reason.MisplacedOption allows refused = allows.1 refused.1
  allows_refuses reason.Elsewhere allows refused = elsewhere Yes yes_no allows.2 refused.2
  allows_refuses reason.Command allows refused = elim refused [ ]
  allows_refuses reason.Principals allows refused = elim refused [ ]

  allows_unclear : Judges t time client host judgement.Allows → Judges t time client host judgement.Unclear → ⊥
  allows_unclear allows may = elim may.3 [
    | inl at_time ↦ yes_unclear (one_time t.expires time Yes Unclear allows.0 at_time)
    | inr at_place ↦ yes_unclear (one_place t.from client host Yes Unclear allows.2 at_place)
  ]

  refuses_unclear : (r : Reason) → Judges t time client host (judgement.Refuses r) → Judges t time client host judgement.Unclear → ⊥
  refuses_unclear reason.Expired refused may = may.0 refused
  refuses_unclear reason.MisplacedOption refused may = may.1 refused.1
  refuses_unclear reason.Elsewhere refused may = may.2 refused.2
  refuses_unclear reason.Command refused may = elim refused [ ]
  refuses_unclear reason.Principals refused may = elim refused [ ]

  one_reason : (r s : Reason) → Judges t time client host (judgement.Refuses r) → Judges t time client host (judgement.Refuses s) → r ≡ s
  one_reason reason.Expired reason.Expired p q = refl
  one_reason reason.Expired reason.MisplacedOption p q = absurd (q.0 p)
  one_reason reason.Expired reason.Elsewhere p q = absurd (q.0 p)
  one_reason reason.Expired reason.Command p q = absurd q
  one_reason reason.Expired reason.Principals p q = absurd q
  one_reason reason.MisplacedOption reason.Expired p q = absurd (p.0 q)
  one_reason reason.MisplacedOption reason.MisplacedOption p q = refl
  one_reason reason.MisplacedOption reason.Elsewhere p q = absurd (q.1 p.1)
  one_reason reason.MisplacedOption reason.Command p q = absurd q
  one_reason reason.MisplacedOption reason.Principals p q = absurd q
  one_reason reason.Elsewhere reason.Expired p q = absurd (p.0 q)
  one_reason reason.Elsewhere reason.MisplacedOption p q = absurd (p.1 q.1)
  one_reason reason.Elsewhere reason.Elsewhere p q = refl
  one_reason reason.Elsewhere reason.Command p q = absurd q
  one_reason reason.Elsewhere reason.Principals p q = absurd q
  one_reason reason.Command s p q = absurd p
  one_reason reason.Principals s p q = absurd p

  pub one_judgement : (a b : Judgement) → Judges t time client host a → Judges t time client host b → a ≡ b
  one_judgement judgement.Allows judgement.Allows p q = refl
  one_judgement judgement.Allows (judgement.Refuses r) p q = absurd (allows_refuses r p q)
  one_judgement judgement.Allows judgement.Unclear p q = absurd (allows_unclear p q)
  one_judgement (judgement.Refuses r) judgement.Allows p q = absurd (allows_refuses r q p)
  one_judgement (judgement.Refuses r) (judgement.Refuses s) p q = ap (λ (x : Reason). judgement.Refuses x) (one_reason r s p q)
  one_judgement (judgement.Refuses r) judgement.Unclear p q = absurd (refuses_unclear r p q)
  one_judgement judgement.Unclear judgement.Allows p q = absurd (allows_unclear q p)
  one_judgement judgement.Unclear (judgement.Refuses r) p q = absurd (refuses_unclear r q p)
  one_judgement judgement.Unclear judgement.Unclear p q = refl

-- with a certificate too
one_with : (by : Credential) (user : List ℕ) (t : Terms) (Says : Judgement → Type 0) → ((a b : Judgement) → Says a → Says b → a ≡ b) → (a b : Judgement) → JudgesWith by user t Says a → JudgesWith by user t Says b → a ≡ b
one_with (OfKey k) user t Says one a b p q = one a b p q
one_with (OfCertificate c) user t Says one a b p q = p.2 ∙ ap (λ (j : Judgement). judged_with c user t j) (one p.0 q.0 p.1 q.1) ∙ sym q.2

one_of_login : (login : UserLogin) (by : Credential) (t : Terms) (a b : Judgement) → JudgesLogin login by t a → JudgesLogin login by t b → a ≡ b
one_of_login login by t = one_with by login.user t (λ j. Judges t login.time login.client login.host j) (one_judgement t login.time login.client login.host)

allows_no_refusal : (r : Reason) → judgement.Allows ≡ judgement.Refuses r → ⊥
allows_no_refusal r e = cc

allows_no_doubt : judgement.Allows ≡ judgement.Unclear → ⊥
allows_no_doubt e = cc

refuses_no_doubt : (r : Reason) → judgement.Refuses r ≡ judgement.Unclear → ⊥
refuses_no_doubt r e = cc

-- ---- a line

module _ (login : UserLogin) (by : Credential) (line : List ℕ) (terms : code.Terms) (own : IsOwn by line (terms_of terms)) (one : (u : Terms) → IsOwn by line u → u ≡ terms_of terms) (told : MayBeFor (listed_key by) line → ⊥) where
  abbrev Here : Terms → Judgement → Type 0
  Here t j = JudgesLogin login by t j

  -- what is said of others is said of these
  same : (u : Terms) (a b : Judgement) → Here (terms_of terms) a → IsOwn by line u → Here u b → a ≡ b
  same u a b here for says = one_of_login login by (terms_of terms) a b here (subst (λ (t : Terms). Here t b) (one u for) says)

  pub says : (j : Judgement) → Here (terms_of terms) j → (v : LineVerdict) → FollowsFrom terms j v → SaysOf login by line v
  says judgement.Allows allows v is = subst (SaysOf login by line) (sym is) (
    record { own = own; allowed = allows },
    (λ u lets. one u lets.own),
    λ may. elim may [
      | inl be ↦ told be
      | inr other ↦ allows_no_doubt (same other.terms judgement.Allows judgement.Unclear allows other.own other.may)
    ],
  )
  says (judgement.Refuses r) refused v is = subst (SaysOf login by line) (sym is) (
    record { terms = terms_of terms; own = own; refused = refused },
    λ ends. elim ends [
      | inl lets ↦ allows_no_refusal r (sym (same lets.0 (judgement.Refuses r) judgement.Allows refused lets.1.own lets.1.allowed))
      | inr (inl be) ↦ told be
      | inr (inr other) ↦ refuses_no_doubt r (same other.terms (judgement.Refuses r) judgement.Unclear refused other.own other.may)
    ],
  )
  says judgement.Unclear may v is = subst (SaysOf login by line) (sym is) (
    inr (record { terms = terms_of terms; own = own; may = may }),
    λ u lets. allows_no_doubt (sym (same u judgement.Unclear judgement.Allows may lets.own lets.allowed)),
  )

-- ---- a line without told terms

module _ (login : UserLogin) (by : Credential) (line : List ℕ) (none : (t : Terms) → IsOwn by line t → ⊥) where
  pub passes : (MayBeFor (listed_key by) line → ⊥) → ¬ IsListedBy by line × ¬ Ends login by line
  passes told = (
    λ listed. none listed.0 listed.1,
    λ ends. elim ends [
      | inl lets ↦ none lets.0 lets.1.own
      | inr (inl be) ↦ told be
      | inr (inr other) ↦ none other.terms other.own
    ],
  )

  pub may_let : MayBeFor (listed_key by) line → MayLet login by line × ((t : Terms) → Lets login by line t → ⊥)
  may_let be = (inl be, λ t lets. none t lets.own)
