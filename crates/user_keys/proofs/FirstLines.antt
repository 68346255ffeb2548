-- The first of some lines that lets a key in, or refuses it.
use Rattle.std.proofs.Common.{◌≡◌, ◌∙◌, ◌⊎◌, ◌+◌, ◌-◌, ◌<◌, ℕ, zero, suc, List, [], ◌∷◌, ◌++◌, Bool, false, IsTrue, Option, Some, None, IfErr, IfOk, Result, Ok, Err, ap, append_assoc, arith, get_or, inl, inr, length, refl, subst, sym}
use Rattle.std.proofs.lemmas.Bool.{cases_lt}
use Rattle.std.proofs.lemmas.List.{get_or_append_left, get_or-append_right, length-append}
use Rattle.std.proofs.Math.Seq.{get_or-append_seam}
use Rattle.std.specs.List.{Any}
use Rattle.std.specs.Prelude.{Contains, IsErrAnd, IsSome, option_map}
use Rattle.openssh_limits.specs.Limits.{openssh_accepts_key}
use Rattle.sshkey_krl.specs.Revocations.{is_key_revoked}
use Rattle.sshkey_model.specs.Keys.{Key}
use Rattle.login_terms.specs.Options.{Terms, terms_of}
use Rattle.user_keys.specs.Answers.{AsksOfLines, GrantsExactly, IsWhyNoLine, SaysOf, first_refused, refusal_for}
use Rattle.user_keys.specs.Spellings.{MaySpell, own_part}
use Rattle.user_keys.specs.UserLogins.{EndsBy, IsFirst, LetsFirst, TakesAsTold, TakesFirst, Admits, Credential, Ends, GrantsFirst, IsListedBy, OfKey, RefusesFor, UserLogin, listed_key, IsOwn, is_certificate}
use Rattle.user_keys.specs.declared.answer.LineVerdict.TheVariants as verdict
use Rattle.user_keys.specs.declared.grant.UserGrant.{UserGrant}
use Rattle.user_keys.specs.declared.refusal.Reason.{Reason}
use Rattle.user_keys.specs.declared.refusal.UserRefusal.{UserRefusal}
use Rattle.user_keys.specs.declared.refusal.UserRefusal.TheVariants as refusal
use Rattle.sshkey_entries.specs.Answers.{Tells}
use Rattle.sshkey_entries.specs.declared.reading.Reading.{Reading}
use Rattle.login_terms.specs.declared.terms.Terms as code
use Rattle.user_keys.specs.Lines.{IsFor, MayBeFor}

-- ---- some of a list

module _ {X : Type 0} (P : X → Type 0) where
  either : (xs ys : List X) → Any P (xs ++ ys) → Any P xs ⊎ Any P ys
  either xs ys s = elim (cases_lt s.0 (length xs)) [
    | inl less ↦ inl (s.0, s.1, less, sym (get_or_append_left xs ys s.1 s.0 less) ∙ s.3, s.4)
    | inr above ↦ inr (s.0 - length xs, s.1, omega (arith, s.2, above, length-append xs ys), sym (get_or-append_right xs ys (length xs) s.0 s.1 refl above) ∙ s.3, s.4)
  ]

  only : (x : X) → Any P (x ∷ []) → P x
  only x (zero, y, l, is, p) = subst P (sym is) p
  only x (suc k, y, l, is, p) = absurd (omega (arith, l))

  pub none_more : (before : List X) (x : X) → (Any P before → ⊥) → (P x → ⊥) → Any P (before ++ (x ∷ [])) → ⊥
  none_more before x none not s = elim (either before (x ∷ []) s) [
    | inl a ↦ none a
    | inr b ↦ not (only x b)
  ]

  pub here : (before : List X) (x : X) (after : List X) → P x → Any P (before ++ (x ∷ after))
  here before x after p = (length before, x, omega (arith, length-append before (x ∷ after)), get_or-append_seam before x after x, p)

-- what a part of a list has the whole has
in_whole : {X : Type 0} (xs ys : List X) (x : X) → Contains xs x → Contains (xs ++ ys) x
in_whole xs ys x (k, l, is) = (k, omega (arith, l, length-append xs ys), get_or_append_left xs ys x k l ∙ is)

-- where this holds, it holds of each error
pub of_error : {X E : Type 0} {Q : Type 0} (r : Result X E) → Q → IfErr r (λ e. Q)
of_error (Ok x) q = tt
of_error (Err e) q = q

-- ---- out of memory

pub out_of_memory : (P : UserGrant → Type 0) (r : Result UserGrant UserRefusal) → IsErrAnd r (λ e. e ≡ refusal.Memory) → GrantsExactly P r
out_of_memory P (Ok g) is = absurd is
out_of_memory P (Err e) is = λ other. absurd (other is)

pub asked : (login : UserLogin) (by : Credential) (r : Result UserGrant UserRefusal) → Any (MaySpell (own_part (listed_key by))) login.lines → AsksOfLines login by r
asked login by (Ok g) some = tt
asked login by (Err e) some = λ memory. some

-- ---- the first

module _ (P : List ℕ → Type 0) where
  -- one before another would be among those that are none
  not_before : (all : List (List ℕ)) (x y : List ℕ) (n m : ℕ) (f : IsFirst P all x n) (g : IsFirst P all y m) → length f.before < length g.before → ⊥
  not_before all x y n m f g less =
      let there : get_or g.before (length f.before) x ≡ x = sym (get_or_append_left g.before (y ∷ g.after) x (length f.before) less) ∙ ap (λ (l : List (List ℕ)). get_or l (length f.before) x) (sym g.is ∙ f.is) ∙ get_or-append_seam f.before x f.after x in
      g.none (length f.before, x, less, there, f.holds)

  pub one_first : (all : List (List ℕ)) (x y : List ℕ) (n m : ℕ) → IsFirst P all x n → IsFirst P all y m → x ≡ y
  one_first all x y n m f g = elim (cases_lt (length f.before) (length g.before)) [
    | inl less ↦ absurd (not_before all x y n m f g less)
    | inr above ↦ elim (cases_lt (length g.before) (length f.before)) [
      | inl more ↦ absurd (not_before all y x m n g f more)
      | inr below ↦ (
          let same : length f.before ≡ length g.before = omega (arith, above, below) in
          sym (get_or-append_seam f.before x f.after y) ∙ ap (λ (l : List (List ℕ)). get_or l (length f.before) y) (sym f.is ∙ g.is) ∙ ap (λ (k : ℕ). get_or (g.before ++ (y ∷ g.after)) k y) same ∙ get_or-append_seam g.before y g.after y)
    ]
  ]

  pub some_first : (all : List (List ℕ)) (x : List ℕ) (n : ℕ) → IsFirst P all x n → Any P all
  some_first all x n f = subst (Any P) (sym f.is) (here P f.before x f.after f.holds)

  pub more_first : (all more : List (List ℕ)) (x : List ℕ) (n : ℕ) → IsFirst P all x n → IsFirst P (all ++ more) x n
  more_first all more x n f = record {
    before = f.before;
    after = f.after ++ more;
    is = ap (λ (l : List (List ℕ)). l ++ more) f.is ∙ append_assoc f.before (x ∷ f.after) more;
    none = f.none;
    holds = f.holds;
    counted = f.counted;
  }

-- ---- the line that lets in

seen_some : (seen : Terms → Terms) (o : Option Terms) (t : Terms) → option_map seen o ≡ Some t → IsSome o
seen_some seen (Some u) t is = refl
seen_some seen None t is = absurd cc

module _ (Lets : List ℕ → Terms → Type 0) (MayLet : List ℕ → Type 0) (all : List (List ℕ)) where
  -- sshd takes it, too
  pub strict : (n : ℕ) (t : Terms) → LetsFirst Lets MayLet all n t → (seen : Terms → Terms) (takes : List ℕ → Option Terms) → TakesAsTold Lets MayLet all seen takes → TakesFirst seen takes all n t
  strict n t is seen takes as_told =
      let first = is.first in
      let among : Contains all is.line = subst (λ (l : List (List ℕ)). Contains l is.line) (sym first.is) (length first.before, omega (arith, length-append first.before (is.line ∷ first.after)), get_or-append_seam first.before is.line first.after is.line) in
      let taken = as_told.told is.line t among is.lets in
      record {
        line = is.line;
        first = record {
          before = first.before;
          after = first.after;
          is = first.is;
          none = λ some. first.none (some.0, some.1, some.2, some.3, as_told.only some.1 (subst (λ (l : List (List ℕ)). Contains l some.1) (sym first.is) (in_whole first.before (is.line ∷ first.after) some.1 (some.0, some.2, some.3))) some.4);
          holds = seen_some seen (takes is.line) (seen t) taken;
          counted = first.counted;
        };
        terms = taken;
      }

  -- none does where a line may do so before any that does
  pub none_lets : (line : List ℕ) (n : ℕ) → IsFirst (EndsBy Lets MayLet) all line n → MayLet line → (m : ℕ) (t : Terms) → LetsFirst Lets MayLet all m t → ⊥
  none_lets line n first may m t is = is.told (subst MayLet (one_first (EndsBy Lets MayLet) all line is.line n m first is.first) may)

  -- nor where no line does
  pub nothing_lets : (Any (EndsBy Lets MayLet) all → ⊥) → (n : ℕ) (t : Terms) → LetsFirst Lets MayLet all n t → ⊥
  nothing_lets none n t is = none (some_first (EndsBy Lets MayLet) all is.line n is.first)

  pub one_line : (n m : ℕ) (t u : Terms) (is : LetsFirst Lets MayLet all n t) (too : LetsFirst Lets MayLet all m u) → too.line ≡ is.line
  one_line n m t u is too = one_first (EndsBy Lets MayLet) all too.line is.line m n too.first is.first

  pub one_terms : (n m : ℕ) (t u : Terms) (is : LetsFirst Lets MayLet all n t) (too : LetsFirst Lets MayLet all m u) → u ≡ t
  one_terms n m t u is too = is.alone u (subst (λ (l : List ℕ). Lets l u) (one_line n m t u is too) too.lets)

module _ (login : UserLogin) (by : Credential) where
  pub granted : (g : UserGrant) (line : List ℕ) → IsFirst (Ends login by) login.lines line g.line → SaysOf login by line (verdict.Lets g.terms) → GrantsFirst login by g
  granted g line first says = record { line = line; first = first; lets = says.0; alone = says.1; told = says.2 }

  -- ---- the line that refuses

  -- of some lines the first that is for the key refuses it for that
  abbrev pub RefusedBy : List (List ℕ) → Option (ℕ × Reason) → Type 0
  RefusedBy before None = ¬ Any (IsListedBy by) before
  RefusedBy before (Some x) = (line : List ℕ) × IsFirst (IsListedBy by) before line x.0 × RefusesFor login by line x.1

  pub passed : (before : List (List ℕ)) (line : List ℕ) (refused : Option (ℕ × Reason)) → RefusedBy before refused → (IsListedBy by line → ⊥) → RefusedBy (before ++ (line ∷ [])) refused
  passed before line None none not = none_more (IsListedBy by) before line none not
  passed before line (Some x) is not = (is.0, more_first (IsListedBy by) before (line ∷ []) is.0 x.0 is.1, is.2)

  pub refused_also : (before : List (List ℕ)) (line : List ℕ) (n : ℕ) (r : Reason) (refused : Option (ℕ × Reason)) → n ≡ length before + 1 → RefusedBy before refused → RefusesFor login by line r → RefusedBy (before ++ (line ∷ [])) (first_refused refused n r)
  refused_also before line n r None counted none refuses = (
    line,
    record { before = before; after = []; is = refl; none = none; holds = (refuses.terms, refuses.own); counted = counted },
    refuses,
  )
  refused_also before line n r (Some x) counted is refuses = (is.0, more_first (IsListedBy by) before (line ∷ []) is.0 x.0 is.1, is.2)

  pub why : (refused : Option (ℕ × Reason)) → (Any (Ends login by) login.lines → ⊥) → RefusedBy login.lines refused → IsWhyNoLine login by (refusal_for refused)
  why None none not = (none, not)
  why (Some x) none is = (none, is)

-- ---- the whole

pub admitted : (login : UserLogin) (key : Key) (revokes_key : List ℕ → Bool) → IsTrue (openssh_accepts_key login.least_rsa_bits key) → is_key_revoked revokes_key key ≡ false → (r : Result UserGrant UserRefusal) → IfOk r (λ g. g.certified ≡ None) → GrantsExactly (GrantsFirst login (OfKey key)) r → GrantsExactly (Admits login key revokes_key) r
admitted login key revokes_key accepted unrevoked (Ok g) by_key is = record { accepted = accepted; unrevoked = unrevoked; granted = is; by_key = by_key }
admitted login key revokes_key accepted unrevoked (Err r) by_key none = λ other g is. none other g is.granted

-- Whose lines are read.

-- what a line says that is for the key whose lines they are
pub own_reading : (by : Credential) (line : List ℕ) (authority : Bool) (key : Key) → authority ≡ is_certificate by → key ≡ listed_key by → (r : Reading code.Terms) → Tells terms_of (IsFor authority key line) (MayBeFor key line) r → Tells terms_of (IsOwn by line) (MayBeFor (listed_key by) line) r
own_reading by line authority key by_one same r told = subst (λ (k : Key). Tells terms_of (IsFor (is_certificate by) k line) (MayBeFor k line) r) same (subst (λ (a : Bool). Tells terms_of (IsFor a key line) (MayBeFor key line) r) by_one told)
