-- The line of a file of principals that decides.
use Rattle.std.proofs.Common.{◌≡◌, ◌∙◌, ◌==◌, ◌&&◌, ◌+◌, ◌++◌, ℕ, List, [], ◌∷◌, Bool, Bor, true, false, not, IfErr, IfOk, IsTrue, Option, Some, None, Result, Err, Ok, ap, bytes_eq, inl, inr, length, map, refl, string_bytes, subst, sym}
use Rattle.std.specs.List.{Any, list_any}
use Rattle.std.specs.Prelude.{String}
use Rattle.sshkey_entries.proofs.OptionItems.{told_as}
use Rattle.sshkey_entries.specs.Answers.{Tells}
use Rattle.login_terms.specs.Options.{Terms, terms_of}
use Rattle.sshkey_entries.specs.declared.reading.Reading.{Reading}
use Rattle.sshkey_entries.specs.declared.reading.Reading.TheVariants.{Is, Rejected, Unclear}
use Rattle.login_terms.specs.declared.terms.Terms as code
use Rattle.sshkey_model.specs.Certificates.{Certificate}
use Rattle.user_keys.specs.Certificates.{is_listed}
use Rattle.user_keys.specs.UserLogins.{EndsBy, IsFirst, UserLogin}
use Rattle.user_keys.specs.Lines.{AreTerms, MayBeTerms}
use Rattle.user_keys.specs.Principals.{DecidesFirst, IsPrincipalLine, IsWhyNoDecision, IsWhyNotAllowed, IsWhyUndecided, JudgesPrincipal, RefusesPrincipal, judged_in_place, Decides, DecidesBy, HasOptions, MayDecide, MayDecideBy, SplitsLine, is_principal, lines_at_feeds, name_in, names_principal}
use Rattle.user_keys.specs.declared.answer.Judgement.{Judgement}
use Rattle.user_keys.specs.declared.answer.Judgement.TheVariants as judgement
use Rattle.user_keys.specs.declared.refusal.UserRefusal.{UserRefusal}
use Rattle.user_keys.specs.declared.refusal.UserRefusal.TheVariants as refusal
use Rattle.user_keys.proofs.FirstLines.{here, none_lets, nothing_lets, one_line, one_terms}
use Rattle.user_keys.proofs.Judgements.{one_judgement}
use Rattle.user_keys.proofs.PrincipalLines.{mapped, one_options}

-- ---- a line

pub empty_name : (c : Certificate) (name : List ℕ) → (length name == 0) ≡ true → is_principal c name ≡ false
empty_name c name empty = rw empty refl

no_more : (b : Bool) → (b && false) ≡ false
no_more true = refl
no_more false = refl

pub other_name : (c : Certificate) (name : List ℕ) → is_listed c.signed.valid_principals name ≡ false → is_principal c name ≡ false
other_name c name other = rw other (no_more (not (length name == 0)))

pub listed_name : (c : Certificate) (name : List ℕ) → (length name == 0) ≡ false → is_listed c.signed.valid_principals name ≡ true → is_principal c name ≡ true
listed_name c name some listed = rw (some, listed) refl

module _ (c : Certificate) (name : List ℕ) where
  pub is_one : (options : Option (List ℕ)) (t : Terms) → DecidesBy c name options t → IsTrue (is_principal c name)
  is_one None t d = absurd d
  is_one (Some options) t d = d.0

  may_be_one : (options : Option (List ℕ)) → MayDecideBy c name options → IsTrue (is_principal c name)
  may_be_one None d = d
  may_be_one (Some options) d = d.0

  -- of nobody who is listed nothing is read
  pub of_nobody : (options : Option (List ℕ)) → is_principal c name ≡ false → Tells {X = code.Terms} terms_of (DecidesBy c name options) (MayDecideBy c name options) Rejected
  of_nobody options other = ((λ t d. let has = is_one options t d in absurd cc), λ d. let has = may_be_one options d in absurd cc)

  -- nor where the line is no UTF-8
  pub of_unread : (options : Option (List ℕ)) → options ≡ None → IsTrue (is_principal c name) → Tells {X = code.Terms} terms_of (DecidesBy c name options) (MayDecideBy c name options) Unclear
  of_unread None is has = ((λ t d. d), has)
  of_unread (Some options) is has = absurd cc

  one_reading : (options : List ℕ) → IsTrue (is_principal c name) → (r : Reading code.Terms) → Tells terms_of (AreTerms options) (MayBeTerms options) r → Tells terms_of (DecidesBy c name (Some options)) (MayDecideBy c name (Some options)) r
  one_reading options has = told_as terms_of (AreTerms options) (DecidesBy c name (Some options)) (MayBeTerms options) (MayDecideBy c name (Some options)) (λ t are. (has, are)) (λ t d. d.1) (λ may. (has, may)) (λ d. d.1)

  pub of_one : {E : Type 0} → (options : List ℕ) → IsTrue (is_principal c name) → (r : Result (Reading code.Terms) E) → IfOk r (Tells terms_of (AreTerms options) (MayBeTerms options)) → IfOk r (Tells terms_of (DecidesBy c name (Some options)) (MayDecideBy c name (Some options)))
  of_one options has (Ok r) told = one_reading options has r told
  of_one options has (Err e) told = tt

  pub of_line : (options : Option (List ℕ)) (line : List ℕ) → name ≡ name_in line → HasOptions line options → (r : Reading code.Terms) → Tells terms_of (DecidesBy c name options) (MayDecideBy c name options) r → Tells terms_of (Decides c line) (MayDecide c line) r
  of_line options line is are = told_as terms_of (DecidesBy c name options) (Decides c line) (MayDecideBy c name options) (MayDecide c line)
      (λ t d. (options, are, subst (λ (n : List ℕ). DecidesBy c n options t) is d))
      (λ t d. subst (λ (n : List ℕ). DecidesBy c n options t) (sym is) (subst (λ (o : Option (List ℕ)). DecidesBy c (name_in line) o t) (one_options line d.0 options d.1 are) d.2))
      (λ d. (options, are, subst (λ (n : List ℕ). MayDecideBy c n options) is d))
      (λ d. subst (λ (n : List ℕ). MayDecideBy c n options) (sym is) (subst (λ (o : Option (List ℕ)). MayDecideBy c (name_in line) o) (one_options line d.0 options d.1 are) d.2))

-- what is left after the first line
pub first_of : (text line : List ℕ) (r : Option (Bor (List ℕ))) → SplitsLine text line r → (more : List (List ℕ)) × (lines_at_feeds text ≡ line ∷ more)
first_of text line None is = ([], is)
first_of text line (Some rest) is = (lines_at_feeds rest.now, is.0)

pub no_end : (c : Certificate) (line : List ℕ) → Tells {X = code.Terms} terms_of (Decides c line) (MayDecide c line) Rejected → EndsBy (Decides c) (MayDecide c) line → ⊥
no_end c line told (inl lets) = told.0 lets.0 lets.1
no_end c line told (inr may) = told.1 may

module _ (c : Certificate) (all before more : List (List ℕ)) (line : List ℕ) (n : ℕ) (is : all ≡ before ++ (line ∷ more)) (none : Any (EndsBy (Decides c) (MayDecide c)) before → ⊥) (counted : n ≡ length before + 1) where
  first_with : EndsBy (Decides c) (MayDecide c) line → IsFirst (EndsBy (Decides c) (MayDecide c)) all line n
  first_with holds = record { before = before; after = more; is = is; none = none; holds = holds; counted = counted }

  pub decided : (t : code.Terms) (name : List ℕ) → name ≡ name_in line → Tells terms_of (Decides c line) (MayDecide c line) (Is t) → DecidesFirst c all n (terms_of t) name
  decided t name same told = (record { line = line; first = first_with (inl (terms_of t, told.0)); lets = told.0; alone = told.1; told = told.2 }, same)

  pub untold : Tells {X = code.Terms} terms_of (Decides c line) (MayDecide c line) Unclear → IsWhyNoDecision c all (refusal.Unclear n)
  untold told = inr (line, n, first_with (inr told.1), told.1, refl)

pub names_in : (c : Certificate) (all before more : List (List ℕ)) (line : List ℕ) → all ≡ before ++ (line ∷ more) → IsTrue (names_principal c line) → Any (λ x. IsTrue (names_principal c x)) all
names_in c all before more line is has = subst (Any (λ x. IsTrue (names_principal c x))) (sym is) (here (λ x. IsTrue (names_principal c x)) before line more has)

pub if_memory : {X : Type 0} {Q : Type 0} (r : Result X UserRefusal) → Q → IfErr r (λ e. e ≡ refusal.Memory → Q)
if_memory (Ok x) q = tt
if_memory (Err e) q = λ memory. q

-- ---- the judgement

module _ (login : UserLogin) (c : Certificate) where
  pub one_judged : (t : Terms) (a b : Judgement) → JudgesPrincipal login c t a → JudgesPrincipal login c t b → a ≡ b
  one_judged t a b p q = p.2 ∙ ap (λ (j : Judgement). judged_in_place c t j) (one_judgement t login.time login.client login.host p.0 q.0 p.1 q.1) ∙ sym q.2

  module _ (number : ℕ) (t : Terms) (name : List ℕ) (decides : DecidesFirst c login.lines number t name) where
    same_terms : (n : ℕ) (u : Terms) (other : List ℕ) → DecidesFirst c login.lines n u other → u ≡ t
    same_terms n u other is = one_terms (Decides c) (MayDecide c) login.lines number n t u decides.0 is.0

    -- the line that decides lets in for the one name
    pub one_name : (n : ℕ) (u : Terms) (other : List ℕ) → IsPrincipalLine login c n u other → other ≡ name
    one_name n u other is = is.0.1 ∙ ap name_in (one_line (Decides c) (MayDecide c) login.lines number n t u decides.0 is.0.0) ∙ sym decides.1

    -- nor where it does not allow it
    refused_for : (j : Judgement) → JudgesPrincipal login c t j → (judgement.Allows ≡ j → ⊥) → (n : ℕ) (u : Terms) (other : List ℕ) → IsPrincipalLine login c n u other → ⊥
    refused_for j says not n u other is = not (one_judged t judgement.Allows j (subst (λ (v : Terms). JudgesPrincipal login c v judgement.Allows) (same_terms n u other is.0) is.1) says)

    pub not_allowed : (r : UserRefusal) → IsWhyNotAllowed login c number t r → (n : ℕ) (u : Terms) (other : List ℕ) → IsPrincipalLine login c n u other → ⊥
    not_allowed r (inl refuses) = refused_for (judgement.Refuses refuses.0) refuses.1 (λ e. cc)
    not_allowed r (inr unclear) = refused_for judgement.Unclear unclear.0 (λ e. cc)

  pub undecided : (r : UserRefusal) → IsWhyNoDecision c login.lines r → (n : ℕ) (u : Terms) (other : List ℕ) → IsPrincipalLine login c n u other → ⊥
  undecided r (inl none) n u other is = nothing_lets (Decides c) (MayDecide c) login.lines none.0 n u is.0.0
  undecided r (inr may) n u other is = none_lets (Decides c) (MayDecide c) login.lines may.0 may.1 may.2 may.3 n u is.0.0

  -- what refuses can be told
  pub refused_is_told : (m n : ℕ) (t : Terms) (name : List ℕ) → DecidesFirst c login.lines m t name → RefusesPrincipal login c t → IsWhyUndecided login c (refusal.Unclear n) → ⊥
  refused_is_told m n t name decides says (inl (inl none)) = absurd (cc none.1)
  refused_is_told m n t name decides says (inl (inr (line, k, first, may, is))) = none_lets (Decides c) (MayDecide c) login.lines line k first may m t decides.0
  refused_is_told m n t name decides says (inr (k, u, other, also, inl refuses)) = absurd (cc refuses.2)
  refused_is_told m n t name decides says (inr (k, u, other, also, inr unclear)) =
      let same = one_terms (Decides c) (MayDecide c) login.lines m k t u decides.0 also.0 in
      absurd (cc (one_judged t (judgement.Refuses says.0) judgement.Unclear says.1 (subst (λ (v : Terms). JudgesPrincipal login c v judgement.Unclear) same unclear.0)))

  -- and nobody is let in by it
  pub refused_lets_in : (m : ℕ) (t : Terms) (name : List ℕ) → DecidesFirst c login.lines m t name → RefusesPrincipal login c t → (n : ℕ) (u : Terms) (other : List ℕ) → IsPrincipalLine login c n u other → ⊥
  refused_lets_in m t name decides says = not_allowed m t name decides (refusal.NotAllowed m says.0) (inl (says.0, says.1, refl))

-- ---- where memory is asked for

pub named : (c : Certificate) (lines : List (List ℕ)) (number : ℕ) (t : Terms) (name : List ℕ) → DecidesFirst c lines number t name → Any (λ line. IsTrue (names_principal c line)) lines
named c lines number t name decides =
    let is = decides.0.first in
    subst (Any (λ line. IsTrue (names_principal c line))) (sym is.is) (here (λ line. IsTrue (names_principal c line)) is.before decides.0.line is.after (is_one c (name_in decides.0.line) decides.0.lets.0 t decides.0.lets.2))

-- the name of the line that decides is listed
pub unnamed : {Y : Type 0} (c : Certificate) (lines : List (List ℕ)) (number : ℕ) (t : Terms) (name : List ℕ) (listed : List (String Y)) → map string_bytes listed ≡ c.signed.valid_principals → DecidesFirst c lines number t name → list_any (λ other. bytes_eq name (string_bytes other)) listed ≡ false → ⊥
unnamed c lines number t name listed all decides none =
    let line = decides.0.line in
    let has = is_one c (name_in line) decides.0.lets.0 t decides.0.lets.2 in
    let other : is_listed c.signed.valid_principals (name_in line) ≡ false = ap (λ (n : List ℕ). is_listed c.signed.valid_principals n) (sym decides.1) ∙ ap (λ (x : List (List ℕ)). is_listed x name) (sym all) ∙ sym (mapped name listed) ∙ none in
    let no = other_name c (name_in line) other in
    cc
