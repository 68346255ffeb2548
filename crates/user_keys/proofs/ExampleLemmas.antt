-- What an sshd makes of a text with `restrict`.
use Rattle.std.proofs.Common.{◌≡◌, ◌∙◌, ◌⊎◌, ℕ, zero, suc, List, [], ◌∷◌, Bool, true, false, Option, Some, None, ap, arith, inl, inr, refl, subst, sym, ◌+◌, ◌++◌, IsTrue, codes, get_or, length, ◌<◌, ◌||◌, ◌&&◌, not, is_some, map}
use Rattle.std.specs.Prelude.{Contains, IsSome, option_map, slice_index}
use Rattle.login_terms.specs.Options.{Terms, no_terms, none_permitted}
use Rattle.user_keys.specs.UserLogins.{EndsBy, TakesAsTold, Credential, Lets, MayLet, UserLogin, IsFirst, LetsFirst}
use Rattle.user_keys.specs.LoginExamples.{HasBoth, key_line, leaves_tunnels, restrict_line, restricted, taking}
use Rattle.std.proofs.lemmas.Slice.Eq.{bytes_eq-Decides}
use Rattle.std.specs.List.{Any}
use Rattle.std.specs.Str.{bytes_eq}
use Rattle.openssh_limits.specs.Limits.{openssh_accepts_key}
use Rattle.sshkey_model.specs.Keys.{Dsa, DsaKey, Key}
use Rattle.user_keys.specs.EdgeExamples.{is_b, is_c, lets_b}
use Rattle.user_keys.proofs.FirstLines.{here}
use Rattle.std.proofs.lemmas.Bool.{cases_lt}
use Rattle.std.specs.Char.{to_ascii_lowercase}
use Rattle.sshkey_entries.specs.Fields.{EndsOptions, is_blank, is_inside}
use Rattle.sshkey_entries.specs.OtherKeys.{IsShortName}
use Rattle.sshkey_model.specs.Lines.{key_name}
use Rattle.sshkey_model.specs.Names.{algorithm_name, algorithms, named}
use Rattle.user_keys.specs.Lines.{IsNameFor}

one_of : (a b x : List ℕ) → Contains (a ∷ b ∷ []) x → (x ≡ a) ⊎ (x ≡ b)
one_of a b x (zero, l, is) = inl (sym is)
one_of a b x (suc zero, l, is) = inr (sym is)
one_of a b x (suc (suc k), l, is) = absurd (omega (arith, l))

abbrev tunnels_of : Option Terms → Bool
tunnels_of None = false
tunnels_of (Some t) = t.permissions.tunnels

module _ (login : UserLogin) (by : Credential) (both : HasBoth login by) where
  which : (line : List ℕ) → Contains login.lines line → (line ≡ restrict_line) ⊎ (line ≡ key_line)
  which line among = one_of restrict_line key_line line (subst (λ (l : List (List ℕ)). Contains l line) both.lines among)

  module _ (seen : Terms → Terms) (u : Terms) (alike : seen u ≡ seen restricted) where
    told : (line : List ℕ) (t : Terms) → Contains login.lines line → Lets login by line t → option_map seen (taking u line) ≡ Some (seen t)
    told line t among lets = elim (which line among) [
      | inl first ↦ ap (λ (l : List ℕ). option_map seen (taking u l)) first ∙ ap (λ (s : Terms). Some s) alike ∙ ap (λ (s : Terms). Some (seen s)) (sym (both.first.alone t (subst (λ (l : List ℕ). Lets login by l t) first lets)))
      | inr second ↦ ap (λ (l : List ℕ). option_map seen (taking u l)) second ∙ ap (λ (s : Terms). Some (seen s)) (sym (both.second.alone t (subst (λ (l : List ℕ). Lets login by l t) second lets)))
    ]

    only : (line : List ℕ) → Contains login.lines line → IsSome (taking u line) → EndsBy (Lets login by) (MayLet login by) line
    only line among some = elim (which line among) [
      | inl first ↦ inl (restricted, subst (λ (l : List ℕ). Lets login by l restricted) (sym first) both.first.lets)
      | inr second ↦ inl (no_terms, subst (λ (l : List ℕ). Lets login by l no_terms) (sym second) both.second.lets)
    ]

    pub as_told : TakesAsTold (Lets login by) (MayLet login by) login.lines seen (taking u)
    as_told = record { told = told; only = only }

  pub not_all : TakesAsTold (Lets login by) (MayLet login by) login.lines (λ t. t) leaves_tunnels → ⊥
  not_all takes =
      let among : Contains login.lines restrict_line = subst (λ (l : List (List ℕ)). Contains l restrict_line) (sym both.lines) (0, omega arith, refl) in
      let no : true ≡ false = ap tunnels_of (takes.told restrict_line restricted among both.first.lets) in
      absurd cc

-- The first line of some, and who is let in: for worked examples.

pub never : false ≡ true → ⊥
never e = absurd cc

pub unlike : (xs ys : List ℕ) → xs ≡ ys → bytes_eq xs ys ≡ false → ⊥
unlike xs ys e other = never (sym other ∙ (bytes_eq-Decides xs ys).1 e)

-- ---- the first line

abbrev lines : List (List ℕ)
lines = codes "a" ∷ codes "b" ∷ codes "b" ∷ []

at : (k : ℕ) (xs ys : List (List ℕ)) → xs ≡ ys → get_or xs k [] ≡ get_or ys k []
at k xs ys = ap (λ (l : List (List ℕ)). get_or l k [])

not_a : Any is_b (codes "a" ∷ []) → ⊥
not_a (zero, x, l, is, b) = unlike (codes "a") (codes "b") (is ∙ b) refl
not_a (suc k, x, l, is, b) = omega (arith, l)

pub first_of_two : IsFirst is_b lines (codes "b") 2
first_of_two = record { before = codes "a" ∷ []; after = codes "b" ∷ []; is = refl; none = not_a; holds = refl; counted = refl }

pub never_at_3 : (before after : List (List ℕ)) → lines ≡ before ++ (codes "b" ∷ after) → ¬ Any is_b before → 3 ≡ length before + 1 → ⊥
never_at_3 [] after is none counted = omega (arith, counted)
never_at_3 (x ∷ []) after is none counted = omega (arith, counted)
never_at_3 (x ∷ y ∷ []) after is none counted = none (here is_b (x ∷ []) y [] (sym (at 1 lines (x ∷ y ∷ codes "b" ∷ after) is)))
never_at_3 (x ∷ y ∷ z ∷ more) after is none counted = omega (arith, counted)

pub never_at_1 : (before after : List (List ℕ)) (line : List ℕ) → lines ≡ before ++ (line ∷ after) → is_b line → 1 ≡ length before + 1 → ⊥
never_at_1 [] after line is b counted = unlike (codes "a") (codes "b") (at 0 lines (line ∷ after) is ∙ b) refl
never_at_1 (x ∷ more) after line is b counted = omega (arith, counted)

neither : Any (EndsBy lets_b is_c) (codes "a" ∷ []) → ⊥
neither (zero, x, l, is, inl lets) = unlike (codes "a") (codes "b") (is ∙ lets.1.0) refl
neither (zero, x, l, is, inr may) = unlike (codes "a") (codes "c") (is ∙ may) refl
neither (suc k, x, l, is, ends) = omega (arith, l)

pub first_of_three : LetsFirst lets_b is_c (codes "a" ∷ codes "b" ∷ codes "c" ∷ []) 2 no_terms
first_of_three = record {
  line = codes "b";
  first = record { before = codes "a" ∷ []; after = codes "c" ∷ []; is = refl; none = neither; holds = inl (no_terms, (refl, refl)); counted = refl };
  lets = (refl, refl);
  alone = λ u lets. lets.1;
  told = λ may. unlike (codes "b") (codes "c") may refl;
}

pub not_after : (before after : List (List ℕ)) (line : List ℕ) → codes "c" ∷ codes "b" ∷ [] ≡ before ++ (line ∷ after) → ¬ Any (EndsBy lets_b is_c) before → is_b line → ⊥
not_after [] after line is none b = unlike (codes "c") (codes "b") (at 0 (codes "c" ∷ codes "b" ∷ []) (line ∷ after) is ∙ b) refl
not_after (x ∷ more) after line is none b = none (here (EndsBy lets_b is_c) [] x more (inr (sym (at 0 (codes "c" ∷ codes "b" ∷ []) (x ∷ (more ++ (line ∷ after))) is))))

pub two_terms : (t : Terms) → ((u : Terms) → u ≡ t) → ⊥
two_terms t one = never (ap (λ (u : Terms). u.permissions.pty) (one (record no_terms { permissions = none_permitted }) ∙ sym (one no_terms)))

-- ---- who is let in

pub no_dsa : (least : ℕ) (key : Key) (k : DsaKey) → key ≡ Dsa k → IsTrue (openssh_accepts_key least key) → ⊥
no_dsa least key k is accepted = never (subst (λ (key : Key). IsTrue (openssh_accepts_key least key)) is accepted)

-- Words that are no name of a key, and lines without one: for worked examples.

-- ---- words

either : (a b : Bool) → (a || b) ≡ false → (a ≡ false) × (b ≡ false)
either true b e = absurd (never (sym e))
either false b e = (refl, e)

abbrev is_short : List ℕ → Bool
is_short small = bytes_eq small (codes "rsa") || (bytes_eq small (codes "dsa") || (bytes_eq small (codes "ecdsa") || (bytes_eq small (codes "ed25519") || (bytes_eq small (codes "ecdsa-sk") || (bytes_eq small (codes "ed25519-sk") || (bytes_eq small (codes "xmss")))))))

not_short : (word : List ℕ) → is_short (map to_ascii_lowercase word) ≡ false → IsShortName word → ⊥
not_short word e short =
    let small = map to_ascii_lowercase word in
    let a = either (bytes_eq small (codes "rsa")) _ e in
    let b = either (bytes_eq small (codes "dsa")) _ a.1 in
    let c = either (bytes_eq small (codes "ecdsa")) _ b.1 in
    let d = either (bytes_eq small (codes "ed25519")) _ c.1 in
    let f = either (bytes_eq small (codes "ecdsa-sk")) _ d.1 in
    let g = either (bytes_eq small (codes "ed25519-sk")) _ f.1 in
    elim short [
      | inl is ↦ unlike small (codes "rsa") is a.0
      | inr (inl is) ↦ unlike small (codes "dsa") is b.0
      | inr (inr (inl is)) ↦ unlike small (codes "ecdsa") is c.0
      | inr (inr (inr (inl is))) ↦ unlike small (codes "ed25519") is d.0
      | inr (inr (inr (inr (inl is)))) ↦ unlike small (codes "ecdsa-sk") is f.0
      | inr (inr (inr (inr (inr (inl is))))) ↦ unlike small (codes "ed25519-sk") is g.0
      | inr (inr (inr (inr (inr (inr is))))) ↦ unlike small (codes "xmss") is g.1
    ]

pub not_name : (key : Key) (word : List ℕ) → bytes_eq word (key_name key) ≡ false → is_some (named algorithm_name algorithms word) ≡ false → bytes_eq word (codes "webauthn-sk-ecdsa-sha2-nistp256@openssh.com") ≡ false → bytes_eq word (codes "ssh-mldsa44-ed25519") ≡ false → is_short (map to_ascii_lowercase word) ≡ false → IsNameFor key word → ⊥
not_name key word own fixed webauthn mldsa short (inl is) = unlike word (key_name key) is own
not_name key word own fixed webauthn mldsa short (inr (inl some)) = never (sym fixed ∙ some)
not_name key word own fixed webauthn mldsa short (inr (inr (inl (inl is)))) = unlike word (codes "webauthn-sk-ecdsa-sha2-nistp256@openssh.com") is webauthn
not_name key word own fixed webauthn mldsa short (inr (inr (inl (inr is)))) = unlike word (codes "ssh-mldsa44-ed25519") is mldsa
not_name key word own fixed webauthn mldsa short (inr (inr (inr is))) = not_short word short is

-- ---- ends of options

both : (a b : Bool) → (a && b) ≡ true → (a ≡ true) × (b ≡ true)
both true b e = (refl, e)
both false b e = absurd (never e)

then : (a b : Bool) → (not a || b) ≡ true → a ≡ true → b ≡ true
then true b e is = e
then false b e is = absurd (never is)

-- Each blank before the place is inside quotes.
abbrev pub none_before : List ℕ → ℕ → Bool
none_before text zero = true
none_before text (suc n) = none_before text n && (not (is_blank (slice_index text n)) || is_inside text n)

blanks_inside : (text : List ℕ) (n : ℕ) → none_before text n ≡ true → (i : ℕ) → i < n → is_blank (slice_index text i) ≡ true → is_inside text i ≡ true
blanks_inside text zero none i l blank = absurd (omega (arith, l))
blanks_inside text (suc n) none i l blank = elim (cases_lt i n) [
  | inl less ↦ blanks_inside text n (both (none_before text n) _ none).0 i less blank
  | inr above ↦
      let here : n ≡ i = omega (arith, l, above) in
      subst (λ (k : ℕ). is_inside text k ≡ true) here (then (is_blank (slice_index text n)) (is_inside text n) (both (none_before text n) _ none).1 (subst (λ (k : ℕ). is_blank (slice_index text k) ≡ true) (sym here) blank))
]

pub ends_at : (text : List ℕ) (n : ℕ) → n < length text → is_blank (slice_index text n) ≡ true → is_inside text n ≡ false → none_before text n ≡ true → EndsOptions text n
ends_at text n l blank outside none = record { within = l; blank = blank; outside = outside; first = blanks_inside text n none }

pub never_ends : (text : List ℕ) → none_before text (length text) ≡ true → (place : ℕ) → EndsOptions text place → ⊥
never_ends text none place ends = never (sym ends.outside ∙ blanks_inside text (length text) none place ends.within ends.blank)
