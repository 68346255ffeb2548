-- What the first text says that is not passed over.
use Rattle.std.proofs.Common.{◌≡◌, ◌≢◌, ◌∙◌, ◌+◌, ◌<◌, ◌≤◌, ℕ, zero, suc, List, [], ◌∷◌, IfErr, Option, Some, None, Result, Ok, Err, ap, arith, drop, inl, inr, length, map, refl, slice_index_or, subst, sym, true, false}
use Rattle.std.specs.Option.{option_or}
use Rattle.std.proofs.lemmas.List.{drop_more}
use Rattle.std.proofs.Math.ListN.{drop_of_length-le}
use Rattle.std.specs.Str.Lines.{lines}
use Rattle.login_terms.specs.Options.{Terms}
use Rattle.sshkey_model.specs.Certificates.{Certificate}
use Rattle.sshkey_model.specs.Keys.{Key}
use Rattle.user_keys.proofs.FirstLines.{none_lets, nothing_lets, one_terms, some_first}
use Rattle.user_keys.proofs.Principals.{not_allowed, one_name, refused_is_told, refused_lets_in, undecided}
use Rattle.user_keys.specs.Certificates.{name_for}
use Rattle.user_keys.specs.Answers.{IsWhyNoLine}
use Rattle.user_keys.specs.CertificateLogins.{FindsLine, IsLineFor}
use Rattle.user_keys.specs.UserLogins.{EndsBy, Ends, Lets, MayLet, OfCertificate, OfKey, UserLogin}
use Rattle.user_keys.specs.Principals.{IsPrincipalLine, IsWhyUndecided, Decides, MayDecide, lines_at_feeds}
use Rattle.user_keys.specs.declared.grant.NamedLine.{NamedLine}
use Rattle.user_keys.specs.declared.refusal.Reason.{Reason}
use Rattle.user_keys.specs.declared.refusal.UserRefusal.{UserRefusal}
use Rattle.user_keys.specs.declared.refusal.UserRefusal.TheVariants as why
use Rattle.publickey_login.specs.Sources.{Read, Text, Unreadable, ArePassed, AuthorityLine, Found, GoesOn, IsFoundBy, IsFoundIn, IsOfFirst, KeyLine, Passes, PrincipalLine, RefusesBy, Sought, in_principals, in_text}
use Rattle.publickey_login.specs.Results.{FindsText, decides_alone}
use Rattle.publickey_login.specs.Stops.{HasNone, IsStopped, IsUnclearBy, IsUnread, RefusesFirst, RefusesWith, source_in}
use Rattle.publickey_login.specs.Values.{text_of}
use Rattle.publickey_login.specs.declared.search.LineRefusal.{LineRefusal}
use Rattle.publickey_login.specs.declared.search.TextList.{TextList}
use Rattle.publickey_login.specs.declared.trusted.Text as code

module _ (u : UserLogin) where
  -- ---- a text

  -- its line says and is for one thing
  pub one_found : (s : Sought) (text : List ℕ) (f g : Found) → IsFoundBy u s text f → IsFoundBy u s text g → (g.terms ≡ f.terms) × (g.name ≡ f.name)
  one_found (KeyLine k) text f g a b = (one_terms (Lets (in_text u text) (OfKey k)) (MayLet (in_text u text) (OfKey k)) (lines text) f.line g.line f.terms g.terms a.0 b.0, b.1 ∙ sym a.1)
  one_found (AuthorityLine c) text f g a b =
      let same = one_terms (Lets (in_text u text) (OfCertificate c)) (MayLet (in_text u text) (OfCertificate c)) (lines text) f.line g.line f.terms g.terms a.0 b.0 in
      let named : Some g.name ≡ Some f.name = sym b.1 ∙ ap (λ (t : Terms). name_for c u.user t) same ∙ a.1 in
      (same, cc)
  one_found (PrincipalLine c) text f g a b = (
    one_terms (Decides c) (MayDecide c) (lines_at_feeds text) f.line g.line f.terms g.terms a.0.0 b.0.0,
    one_name (in_principals u text) c f.line f.terms f.name a.0 g.line g.terms g.name b,
  )

  -- nor is it passed over
  pub found_counts : (s : Sought) (text : List ℕ) (f : Found) → IsFoundBy u s text f → Passes u s text → ⊥
  found_counts (KeyLine k) text f a none = nothing_lets (Lets (in_text u text) (OfKey k)) (MayLet (in_text u text) (OfKey k)) (lines text) none f.line f.terms a.0
  found_counts (AuthorityLine c) text f a none = nothing_lets (Lets (in_text u text) (OfCertificate c)) (MayLet (in_text u text) (OfCertificate c)) (lines text) none f.line f.terms a.0
  found_counts (PrincipalLine c) text f a none = nothing_lets (Decides c) (MayDecide c) (lines_at_feeds text) none f.line f.terms a.0.0

  pub refused_counts : (s : Sought) (text : List ℕ) → RefusesBy u s text → Passes u s text → ⊥
  refused_counts (KeyLine k) text a none = a
  refused_counts (AuthorityLine c) text a none = a
  refused_counts (PrincipalLine c) text (n, t, name, decides, why) none = nothing_lets (Decides c) (MayDecide c) (lines_at_feeds text) none n t decides.0

  pub found_lets : (s : Sought) (text : List ℕ) (f : Found) → IsFoundBy u s text f → RefusesBy u s text → ⊥
  found_lets (KeyLine k) text f a b = b
  found_lets (AuthorityLine c) text f a b = b
  found_lets (PrincipalLine c) text f a (n, t, name, decides, says) = refused_lets_in (in_principals u text) c n t name decides says f.line f.terms f.name a

  -- ---- a text that cannot be told

  unclear_lets : (s : Sought) (text : List ℕ) (n : ℕ) (f : Found) → IsFoundBy u s text f → IsUnclearBy u s text n → ⊥
  unclear_lets (KeyLine k) text n f a (line, first, may) = none_lets (Lets (in_text u text) (OfKey k)) (MayLet (in_text u text) (OfKey k)) (lines text) line n first may f.line f.terms a.0
  unclear_lets (AuthorityLine c) text n f a (line, first, may) = none_lets (Lets (in_text u text) (OfCertificate c)) (MayLet (in_text u text) (OfCertificate c)) (lines text) line n first may f.line f.terms a.0
  unclear_lets (PrincipalLine c) text n f a (inl none) = undecided (in_principals u text) c (why.Unclear n) none f.line f.terms f.name a
  unclear_lets (PrincipalLine c) text n f a (inr (m, t, name, decides, says)) = not_allowed (in_principals u text) c m t name decides (why.Unclear n) says f.line f.terms f.name a

  unclear_counts : (s : Sought) (text : List ℕ) (n : ℕ) → IsUnclearBy u s text n → Passes u s text → ⊥
  unclear_counts (KeyLine k) text n (line, first, may) none = none (some_first (Ends (in_text u text) (OfKey k)) (lines text) line n first)
  unclear_counts (AuthorityLine c) text n (line, first, may) none = none (some_first (Ends (in_text u text) (OfCertificate c)) (lines text) line n first)
  unclear_counts (PrincipalLine c) text n (inl (inl x)) none = absurd (cc x.1)
  unclear_counts (PrincipalLine c) text n (inl (inr (line, m, first, may, is))) none = none (some_first (EndsBy (Decides c) (MayDecide c)) (lines_at_feeds text) line m first)
  unclear_counts (PrincipalLine c) text n (inr (m, t, name, decides, says)) none = nothing_lets (Decides c) (MayDecide c) (lines_at_feeds text) none m t decides.0

  unclear_told : (s : Sought) (text : List ℕ) (n : ℕ) → RefusesBy u s text → IsUnclearBy u s text n → ⊥
  unclear_told (KeyLine k) text n a b = a
  unclear_told (AuthorityLine c) text n a b = a
  unclear_told (PrincipalLine c) text n (m, t, name, decides, says) why = refused_is_told (in_principals u text) c m n t name decides says why

  -- ---- what is found of a text

  no_key_line : (k : Key) (text : List ℕ) (r : UserRefusal) → IsWhyNoLine (in_text u text) (OfKey k) r → (f : Found) → IsFoundBy u (KeyLine k) text f → ⊥
  no_key_line k text why.NotListed none f a = found_counts (KeyLine k) text f a none.0
  no_key_line k text (why.NotAllowed n reason) none f a = found_counts (KeyLine k) text f a none.0
  no_key_line k text (why.Unclear n) none f a = unclear_lets (KeyLine k) text n f a none
  no_key_line k text why.UnacceptedKey none f a = none
  no_key_line k text why.Revoked none f a = none
  no_key_line k text (why.Certificate p) none f a = none
  no_key_line k text why.Memory none f a = none

  pub key_line : (k : Key) (text : List ℕ) (r : UserRefusal) → (r ≢ why.Memory → IsWhyNoLine (in_text u text) (OfKey k) r) → FindsText u (KeyLine k) text (Err r)
  key_line k text r refused = λ other. (refused other, no_key_line k text r (refused other))

  pub authority_line : (c : Certificate) (text : List ℕ) (result : Result NamedLine UserRefusal) → FindsLine (IsLineFor (in_text u text) c) result → IfErr result (λ r. r ≢ why.Memory → IsWhyNoLine (in_text u text) (OfCertificate c) r) → FindsText u (AuthorityLine c) text result
  authority_line c text (Ok line) exactly refused = exactly
  authority_line c text (Err r) exactly refused = λ other. (refused other, λ f a. exactly other f.line f.terms f.name a)

  pub principal_line : (c : Certificate) (text : List ℕ) (result : Result NamedLine UserRefusal) → FindsLine (IsPrincipalLine (in_principals u text) c) result → IfErr result (λ r. r ≢ why.Memory → IsWhyUndecided (in_principals u text) c r) → FindsText u (PrincipalLine c) text result
  principal_line c text (Ok line) exactly refused = exactly
  principal_line c text (Err r) exactly refused = λ other. (refused other, λ f a. exactly other f.line f.terms f.name a)

  -- ---- a text that refuses, or has no line

  pub none_passes : (s : Sought) (text : List ℕ) → HasNone u s text → Passes u s text
  none_passes (KeyLine k) text none = none.0
  none_passes (AuthorityLine c) text none = none.0
  none_passes (PrincipalLine c) text (inl (inl x)) = x.0
  none_passes (PrincipalLine c) text (inl (inr (line, m, first, may, is))) = absurd (cc is)
  none_passes (PrincipalLine c) text (inr (m, t, name, decides, inl refuses)) = absurd (cc refuses.2)
  none_passes (PrincipalLine c) text (inr (m, t, name, decides, inr unclear)) = absurd (cc unclear.1)

  -- lines that refuse are passed over, but for a principal
  pub refused_passes : (s : Sought) (text : List ℕ) (n : ℕ) (reason : Reason) → decides_alone s ≡ false → RefusesWith u s n reason text → Passes u s text
  refused_passes (KeyLine k) text n reason goes none = none.0
  refused_passes (AuthorityLine c) text n reason goes none = none.0
  refused_passes (PrincipalLine c) text n reason goes none = absurd (cc goes)

  pub refused_ends : (s : Sought) (text : List ℕ) (n : ℕ) (reason : Reason) → decides_alone s ≡ true → RefusesWith u s n reason text → RefusesBy u s text
  refused_ends (KeyLine k) text n reason ends none = absurd (cc ends)
  refused_ends (AuthorityLine c) text n reason ends none = absurd (cc ends)
  refused_ends (PrincipalLine c) text n reason ends (inl (inl x)) = absurd (cc x.1)
  refused_ends (PrincipalLine c) text n reason ends (inl (inr (line, m, first, may, is))) = absurd (cc is)
  refused_ends (PrincipalLine c) text n reason ends (inr (m, t, name, decides, inl refuses)) = (m, t, name, decides, (refuses.0, refuses.1))
  refused_ends (PrincipalLine c) text n reason ends (inr (m, t, name, decides, inr unclear)) = absurd (cc unclear.1)

  -- ---- several texts

  module _ (s : Sought) where
    pub one_in : (texts : List Text) (n m : ℕ) (f g : Found) → IsFoundIn u s texts n f → IsFoundIn u s texts m g → (g.terms ≡ f.terms) × (g.name ≡ f.name)
    unfolding IsOfFirst
    one_in [] n m f g a b = absurd a
    one_in (Unreadable ∷ rest) n m f g a b = absurd a
    one_in (Read text ∷ rest) zero zero f g a b = one_found s text f g a b
    one_in (Read text ∷ rest) zero (suc m) f g a b = absurd (found_counts s text f a b.0)
    one_in (Read text ∷ rest) (suc n) zero f g a b = absurd (found_counts s text g b a.0)
    one_in (Read text ∷ rest) (suc n) (suc m) f g a b = one_in rest n m f g a.1 b.1

    not_passed : (texts : List Text) (n : ℕ) (f : Found) → IsFoundIn u s texts n f → ArePassed (Passes u s) texts → ⊥
    unfolding IsOfFirst ArePassed
    not_passed [] n f a none = a
    not_passed (Unreadable ∷ rest) n f a none = a
    not_passed (Read text ∷ rest) zero f a none = found_counts s text f a none.0
    not_passed (Read text ∷ rest) (suc n) f a none = not_passed rest n f a.1 none.1

    not_refused : (texts : List Text) (n m : ℕ) (f : Found) → IsFoundIn u s texts n f → IsOfFirst (RefusesBy u s) (Passes u s) texts m → ⊥
    unfolding IsOfFirst
    not_refused [] n m f a b = a
    not_refused (Unreadable ∷ rest) n m f a b = a
    not_refused (Read text ∷ rest) zero zero f a b = found_lets s text f a b
    not_refused (Read text ∷ rest) zero (suc m) f a b = found_counts s text f a b.0
    not_refused (Read text ∷ rest) (suc n) zero f a b = refused_counts s text b a.0
    not_refused (Read text ∷ rest) (suc n) (suc m) f a b = not_refused rest n m f a.1 b.1

    -- where one lets in, nothing after the texts is asked
    pub found_ends : (texts : List Text) (n : ℕ) (f : Found) → IsFoundIn u s texts n f → GoesOn u s texts → ⊥
    found_ends texts n f a (inl none) = not_passed texts n f a none
    found_ends texts n f a (inr (m, b)) = not_refused texts n m f a b

    -- ---- a search that is stopped

    pub found_stops : (texts : List Text) (n m : ℕ) (f : Found) (line : Option ℕ) → IsFoundIn u s texts n f → IsStopped u s texts m line → ⊥
    unfolding IsOfFirst IsUnread
    found_stops [] n m f (Some line) a b = a
    found_stops [] n m f None a b = a
    found_stops (Unreadable ∷ rest) n m f line a b = a
    found_stops (Read text ∷ rest) zero zero f (Some line) a b = unclear_lets s text line f a b
    found_stops (Read text ∷ rest) zero zero f None a b = b
    found_stops (Read text ∷ rest) zero (suc m) f (Some line) a b = found_counts s text f a b.0
    found_stops (Read text ∷ rest) zero (suc m) f None a b = found_counts s text f a b.0
    found_stops (Read text ∷ rest) (suc n) zero f (Some line) a b = unclear_counts s text line b a.0
    found_stops (Read text ∷ rest) (suc n) zero f None a b = b
    found_stops (Read text ∷ rest) (suc n) (suc m) f (Some line) a b = found_stops rest n m f (Some line) a.1 b.1
    found_stops (Read text ∷ rest) (suc n) (suc m) f None a b = found_stops rest n m f None a.1 b.1

    passed_stops : (texts : List Text) (m : ℕ) (line : Option ℕ) → ArePassed (Passes u s) texts → IsStopped u s texts m line → ⊥
    unfolding IsOfFirst IsUnread ArePassed
    passed_stops [] m (Some line) a b = b
    passed_stops [] m None a b = b
    passed_stops (Unreadable ∷ rest) m line a b = a
    passed_stops (Read text ∷ rest) zero (Some line) a b = unclear_counts s text line b a.0
    passed_stops (Read text ∷ rest) zero None a b = b
    passed_stops (Read text ∷ rest) (suc m) (Some line) a b = passed_stops rest m (Some line) a.1 b.1
    passed_stops (Read text ∷ rest) (suc m) None a b = passed_stops rest m None a.1 b.1

    refused_stops : (texts : List Text) (n m : ℕ) (line : Option ℕ) → IsOfFirst (RefusesBy u s) (Passes u s) texts n → IsStopped u s texts m line → ⊥
    unfolding IsOfFirst IsUnread
    refused_stops [] n m (Some line) a b = a
    refused_stops [] n m None a b = a
    refused_stops (Unreadable ∷ rest) n m line a b = a
    refused_stops (Read text ∷ rest) zero zero (Some line) a b = unclear_told s text line a b
    refused_stops (Read text ∷ rest) zero zero None a b = b
    refused_stops (Read text ∷ rest) zero (suc m) (Some line) a b = refused_counts s text a b.0
    refused_stops (Read text ∷ rest) zero (suc m) None a b = refused_counts s text a b.0
    refused_stops (Read text ∷ rest) (suc n) zero (Some line) a b = unclear_counts s text line b a.0
    refused_stops (Read text ∷ rest) (suc n) zero None a b = b
    refused_stops (Read text ∷ rest) (suc n) (suc m) (Some line) a b = refused_stops rest n m (Some line) a.1 b.1
    refused_stops (Read text ∷ rest) (suc n) (suc m) None a b = refused_stops rest n m None a.1 b.1

    pub goes_stops : (texts : List Text) (m : ℕ) (line : Option ℕ) → GoesOn u s texts → IsStopped u s texts m line → ⊥
    goes_stops texts m line (inl none) b = passed_stops texts m line none b
    goes_stops texts m line (inr (n, a)) b = refused_stops texts n m line a b

    -- ---- the texts that are left

    -- What these say the whole says, of which so many were passed over.
    pub record AreLeft (texts rest : List Text) (k : ℕ) : Type 0 where
      pub found : (n : ℕ) (f : Found) → IsFoundIn u s rest n f → IsFoundIn u s texts (k + n) f
      pub goes_on : GoesOn u s rest → GoesOn u s texts
      pub stops : (n : ℕ) (line : Option ℕ) → IsStopped u s rest n line → IsStopped u s texts (k + n) line

    pub all_left : (texts : List Text) → AreLeft texts texts 0
    all_left texts = record { found = λ n f a. subst (λ (m : ℕ). IsFoundIn u s texts m f) (omega arith) a; goes_on = λ a. a; stops = λ n line a. subst (λ (m : ℕ). IsStopped u s texts m line) (omega arith) a }

    later_found : (text : List ℕ) (rest : List Text) → Passes u s text → (n : ℕ) (f : Found) → IsFoundIn u s rest n f → IsFoundIn u s (Read text ∷ rest) (suc n) f
    unfolding IsOfFirst
    later_found text rest passed n f a = (passed, a)

    later_goes : (text : List ℕ) (rest : List Text) → Passes u s text → GoesOn u s rest → GoesOn u s (Read text ∷ rest)
    unfolding IsOfFirst ArePassed
    later_goes text rest passed (inl all) = inl (passed, all)
    later_goes text rest passed (inr (m, b)) = inr (suc m, (passed, b))

    later_stops : (text : List ℕ) (rest : List Text) → Passes u s text → (n : ℕ) (line : Option ℕ) → IsStopped u s rest n line → IsStopped u s (Read text ∷ rest) (suc n) line
    unfolding IsOfFirst IsUnread
    later_stops text rest passed n (Some line) a = (passed, a)
    later_stops text rest passed n None a = (passed, a)

    pub one_less : (texts : List Text) (text : List ℕ) (rest : List Text) (k : ℕ) → Passes u s text → AreLeft texts (Read text ∷ rest) k → AreLeft texts rest (k + 1)
    one_less texts text rest k passed left = record {
      found = λ n f a. subst (λ (m : ℕ). IsFoundIn u s texts m f) (omega arith) (left.found (suc n) f (later_found text rest passed n f a));
      goes_on = λ a. left.goes_on (later_goes text rest passed a);
      stops = λ n line a. subst (λ (m : ℕ). IsStopped u s texts m line) (omega arith) (left.stops (suc n) line (later_stops text rest passed n line a));
    }

    -- ---- the first of them

    pub found_here : (texts : List Text) (text : List ℕ) (rest : List Text) (k : ℕ) (f : Found) → AreLeft texts (Read text ∷ rest) k → IsFoundBy u s text f → IsFoundIn u s texts k f
    unfolding IsOfFirst
    found_here texts text rest k f left a = subst (λ (m : ℕ). IsFoundIn u s texts m f) (omega arith) (left.found 0 f a)

    pub refused_here : (texts : List Text) (text : List ℕ) (rest : List Text) (k : ℕ) → AreLeft texts (Read text ∷ rest) k → RefusesBy u s text → GoesOn u s texts
    unfolding IsOfFirst
    refused_here texts text rest k left a = left.goes_on (inr (0, a))

    pub untold_here : (texts : List Text) (text : List ℕ) (rest : List Text) (k line : ℕ) → AreLeft texts (Read text ∷ rest) k → IsUnclearBy u s text line → IsStopped u s texts k (Some line)
    unfolding IsOfFirst
    untold_here texts text rest k line left a = subst (λ (m : ℕ). IsStopped u s texts m (Some line)) (omega arith) (left.stops 0 (Some line) a)

    pub unread_here : (texts rest : List Text) (k : ℕ) → AreLeft texts (Unreadable ∷ rest) k → IsStopped u s texts k None
    unfolding IsUnread
    unread_here texts rest k left = subst (λ (m : ℕ). IsStopped u s texts m None) (omega arith) (left.stops 0 None tt)

    pub none_left : (texts : List Text) (k : ℕ) → AreLeft texts [] k → GoesOn u s texts
    unfolding ArePassed
    none_left texts k left = left.goes_on (inl tt)

    -- ---- what refuses first

    -- of the texts that are left, of which so many were asked before
    abbrev pub RefusesFrom : TextList → ℕ → List Text → Option LineRefusal → Type 0
    RefusesFrom of k rest (Some x) = (number : ℕ) × (x.source ≡ source_in of (k + number)) × IsOfFirst (RefusesWith u s x.line x.reason) (HasNone u s) rest number
    RefusesFrom of k rest None = ArePassed (HasNone u s) rest

    -- What these refuse with first the whole does, unless one before them refused.
    abbrev pub RefusesSoFar : TextList → List Text → List Text → ℕ → Option LineRefusal → Type 0
    RefusesSoFar of texts rest k first = (x : Option LineRefusal) → RefusesFrom of k rest x → RefusesFirst u s of texts (option_or first x)

    pub none_so_far : (of : TextList) (texts : List Text) → RefusesSoFar of texts texts 0 None
    none_so_far of texts (Some x) (number, is, first) = (number, subst (λ (m : ℕ). x.source ≡ source_in of m) (omega arith) is, first)
    none_so_far of texts None all = all

    later : (of : TextList) (text : List ℕ) (rest : List Text) (k : ℕ) → HasNone u s text → (x : Option LineRefusal) → RefusesFrom of (k + 1) rest x → RefusesFrom of k (Read text ∷ rest) x
    unfolding IsOfFirst ArePassed
    later of text rest k none (Some x) (number, is, first) = (suc number, subst (λ (m : ℕ). x.source ≡ source_in of m) (omega arith) is, (none, first))
    later of text rest k none None all = (none, all)

    pub after_none : (of : TextList) (texts : List Text) (text : List ℕ) (rest : List Text) (k : ℕ) (first : Option LineRefusal) → HasNone u s text → RefusesSoFar of texts (Read text ∷ rest) k first → RefusesSoFar of texts rest (k + 1) first
    after_none of texts text rest k first none so_far = λ x a. so_far x (later of text rest k none x a)

    stays : (first : Option LineRefusal) (x : LineRefusal) (y : Option LineRefusal) → option_or first (Some x) ≡ option_or (option_or first (Some x)) y
    stays None x y = refl
    stays (Some z) x y = refl

    no_more : (first : Option LineRefusal) → option_or first None ≡ first
    no_more None = refl
    no_more (Some x) = refl

    pub at_refused : (of : TextList) (texts : List Text) (text : List ℕ) (rest : List Text) (k : ℕ) (first : Option LineRefusal) (x : LineRefusal) → x.source ≡ source_in of k → RefusesWith u s x.line x.reason text → RefusesSoFar of texts (Read text ∷ rest) k first → RefusesFirst u s of texts (option_or first (Some x))
    unfolding IsOfFirst
    at_refused of texts text rest k first x is refuses so_far = so_far (Some x) (0, subst (λ (m : ℕ). x.source ≡ source_in of m) (omega arith) is, refuses)

    pub after_refused : (of : TextList) (texts : List Text) (text : List ℕ) (rest : List Text) (k : ℕ) (first : Option LineRefusal) (x : LineRefusal) → x.source ≡ source_in of k → RefusesWith u s x.line x.reason text → RefusesSoFar of texts (Read text ∷ rest) k first → RefusesSoFar of texts rest (k + 1) (option_or first (Some x))
    after_refused of texts text rest k first x is refuses so_far = λ y a. subst (λ (z : Option LineRefusal). RefusesFirst u s of texts z) (stays first x y) (at_refused of texts text rest k first x is refuses so_far)

    pub at_end : (of : TextList) (texts : List Text) (k : ℕ) (first : Option LineRefusal) → RefusesSoFar of texts [] k first → RefusesFirst u s of texts first
    unfolding ArePassed
    at_end of texts k first so_far = subst (λ (z : Option LineRefusal). RefusesFirst u s of texts z) (no_more first) (so_far None tt)

-- ---- the texts of a call

pub left_at : (xs : List code.Text) (k : ℕ) (d t : code.Text) → k < length xs → slice_index_or xs k d ≡ t → map text_of (drop k xs) ≡ text_of t ∷ map text_of (drop (k + 1) xs)
left_at xs k d t below is = ap (λ (x : List code.Text). map text_of x) (drop_more xs k d below) ∙ ap (λ (x : code.Text). text_of x ∷ map text_of (drop (k + 1) xs)) is

pub nothing_left : (xs : List code.Text) (k : ℕ) → length xs ≤ k → map text_of (drop k xs) ≡ []
nothing_left xs k above = ap (λ (x : List code.Text). map text_of x) (drop_of_length-le xs above)
