-- How an option is cut off a text.
use Rattle.std.proofs.Common.{◌≡◌, ◌⊎◌, ◌&&◌, ◌==◌, ℕ, zero, suc, ◌<◌, ◌≤◌, ◌+◌, List, [], ◌∷◌, ◌++◌, ◌-◌, length, take, drop, slice_range, slice_index, Bool, true, false, not, cond, Option, None, Some, refl, sym, ap, subst, ◌∙◌, arith, tests, inl, inr, eqb-true, take-append-drop, append_assoc, append-nil, ◌≢◌}
use Rattle.std.proofs.lemmas.Bool.{cases_lt, not-false, not-true, and_parts, eqb-false}
use Rattle.std.proofs.lemmas.List.{length-take-le, length-append, at_drop_more}
use Rattle.std.proofs.lemmas.Str.{IsCharBoundary-after_ascii}
use Rattle.std.specs.Str.{IsUtf8, IsCharBoundary}
use Rattle.sshkey_entries.specs.Items.{is_comma, is_quote}
use Rattle.sshkey_entries.specs.OptionItems.{KeyOption, quote, equals_sign, backslash, is_name_character, IsQuoted, unescaped, IsValueAt, EndsOption, IsOptionAt, without_commas, AreKeyOptions, HasKeyOptions, IsNoOption}
use Rattle.sshkey_entries.specs.Fields.{is_plain_quote}
use Rattle.sshkey_authorized_keys.specs.Options.{CutsName, FindsPlace, is_escape}
use Rattle.sshkey_entries.proofs.Fronts.{IsCut, nothing_stays, skipped, stays}
use Rattle.sshkey_entries.proofs.OptionItems.{quote_front, same_quoted, same_name, value_ends, no_value, one_option, some_option}
use Rattle.std.specs.Prelude.{⊤}
use Rattle.std.specs.Iterator.{MakesProgress, item_count}
use Rattle.sshkey_base.specs.declared.error.Error.{Error}
use Rattle.sshkey_base.specs.declared.error.Error.TheVariants.{FormatEncoding}

-- ---- commas

pub comma_ascii : (c : ℕ) → is_comma c ≡ true → c < 128
comma_ascii c e = omega (arith, eqb-true c 0x2c e)

-- ---- names

abbrev pub ends_name : ℕ → Bool
ends_name c = not (is_name_character c)

pub end_ascii : (c : ℕ) → ends_name c ≡ true → c < 128
end_ascii c e = other c (not-true _ e)
  where
    other : (d : ℕ) → is_name_character d ≡ false → d < 128
    other d is = grind (arith, tests)

pub cuts_name : (text name rest : List ℕ) → IsCut ends_name text name rest → CutsName text name rest
cuts_name text name rest cut = record { is = cut.0; characters = λ i l. not-false _ (cut.1 i l); ends = end cut.2 }
  where
    end : (rest ≡ []) ⊎ (ends_name (slice_index rest 0) ≡ true) → (rest ≡ []) ⊎ (is_name_character (slice_index rest 0) ≡ false)
    end (inl none) = inl none
    end (inr is) = inr (not-true _ is)

-- ---- quoted texts

quote_there : (text : List ℕ) (i : ℕ) → is_plain_quote text i ≡ true → slice_index text i ≡ quote
quote_there text i e = eqb-true _ quote (and_parts (is_quote (slice_index text i)) _ e).0

at_place : (text : List ℕ) (i c : ℕ) → i < length text → slice_index text i ≡ c → text ≡ take i text ++ (c ∷ drop (i + 1) text)
at_place text i c l e =
    sym (take-append-drop i text)
    ∙ ap (λ (t : List ℕ). take i text ++ t) (at_drop_more (λ (t : List ℕ). t) text i 0 l ∙ ap (λ (d : ℕ). d ∷ drop (i + 1) text) e)

pub quoted_cut : (text front back : List ℕ) (i : ℕ) → FindsPlace is_plain_quote text (Some i) → front ≡ take i text → back ≡ drop (i + 1) text → (text ≡ front ++ (quote ∷ back)) × IsQuoted front
quoted_cut text front back i found first rest =
    let whole : text ≡ front ++ (quote ∷ back) = at_place text i quote found.0 (quote_there text i found.1) ∙ (λ j. sym first j ++ (quote ∷ sym rest j)) in
    let size : length front ≡ i = ap length first ∙ length-take-le i text (omega (arith, found.0)) in
    let longer : text ≡ (front ++ (quote ∷ [])) ++ back = whole ∙ sym (append_assoc front (quote ∷ []) back) in (
      whole,
      record {
        inner = λ k l. sym (quote_front front (quote ∷ back) k l) ∙ ap (λ (t : List ℕ). is_plain_quote t k) (sym whole) ∙ found.2 k (omega (arith, l, size));
        ends = sym (quote_front (front ++ (quote ∷ [])) back (length front) (omega (arith, length-append front (quote ∷ []))))
            ∙ ap (λ (t : List ℕ). is_plain_quote t (length front)) (sym longer) ∙ ap (is_plain_quote text) size ∙ found.1;
      },
    )

pub quoted_none : (text : List ℕ) → FindsPlace is_plain_quote text None → (quoted rest : List ℕ) → text ≡ quoted ++ (quote ∷ rest) → IsQuoted quoted → ⊥
quoted_none text none quoted rest is q =
    let longer : text ≡ (quoted ++ (quote ∷ [])) ++ rest = is ∙ sym (append_assoc quoted (quote ∷ []) rest) in
    let here : is_plain_quote text (length quoted) ≡ true
    = ap (λ (t : List ℕ). is_plain_quote t (length quoted)) longer ∙ quote_front (quoted ++ (quote ∷ [])) rest (length quoted) (omega (arith, length-append quoted (quote ∷ []))) ∙ q.ends in
    cc (sym here ∙ none (length quoted) (omega (arith, ap length is, length-append quoted (quote ∷ rest))))

-- ---- escapes

escape_later : (c i : ℕ) (text : List ℕ) → is_escape (c ∷ text) (suc i) ≡ is_escape text i
escape_later c i text = let e : suc i + 1 ≡ suc (i + 1) = omega arith in ap (λ (k : ℕ). slice_index text i == backslash && is_quote (slice_index (c ∷ text) k)) e

pub escape_first : (i : ℕ) (text : List ℕ) → FindsPlace is_escape text (Some i) → unescaped text ≡ take i text ++ unescaped (drop (i + 1) text)
unfolding unescaped
escape_first zero [] found = absurd (omega (arith, found.0))
escape_first zero (c ∷ text) found = ap (λ (b : Bool). cond b (unescaped text) (c ∷ unescaped text)) found.1
escape_first (suc i) [] found = absurd (omega (arith, found.0))
escape_first (suc i) (c ∷ text) found =
    let here = found.2 0 (omega arith) in
    let e : suc i + 1 ≡ suc (i + 1) = omega arith in
    ap (λ (b : Bool). cond b (unescaped text) (c ∷ unescaped text)) here
    ∙ ap (λ (t : List ℕ). c ∷ t) (escape_first i text (omega (arith, found.0), sym (escape_later c i text) ∙ found.1, λ k l. sym (escape_later c k text) ∙ found.2 (suc k) (omega (arith, l))))
    ∙ ap (λ (k : ℕ). take (suc i) (c ∷ text) ++ unescaped (drop k (c ∷ text))) (sym e)

pub escape_none : (text : List ℕ) → FindsPlace is_escape text None → unescaped text ≡ text
unfolding unescaped
escape_none [] none = refl
escape_none (c ∷ text) none =
    ap (λ (b : Bool). cond b (unescaped text) (c ∷ unescaped text)) (none 0 (omega arith))
    ∙ ap (λ (t : List ℕ). c ∷ t) (escape_none text (λ k l. sym (escape_later c k text) ∙ none (suc k) (omega (arith, l))))

-- ---- the places before

-- one place more
pub none_more : (p : ℕ → Bool) (n : ℕ) → ((k : ℕ) → k < n → p k ≡ false) → p n ≡ false → (k : ℕ) → k < n + 1 → p k ≡ false
none_more p n before here k l = elim (cases_lt k n) [
  | inl less ↦ before k less
  | inr above ↦ let e : k ≡ n = omega (arith, l, above) in ap p e ∙ here
]

pub whole_front : (i : ℕ) (text : List ℕ) → slice_range text 0 i ≡ take i text
whole_front i text = let e : i - 0 ≡ i = omega arith in ap (λ (n : ℕ). take n text) e

pub quote_place : (text bytes : List ℕ) (i : ℕ) → IsUtf8 text → bytes ≡ text → FindsPlace is_plain_quote bytes (Some i) → IsCharBoundary text (i + 1)
quote_place text bytes i utf8 same found =
    let here : FindsPlace is_plain_quote text (Some i) = subst (λ (t : List ℕ). FindsPlace is_plain_quote t (Some i)) same found in
    IsCharBoundary-after_ascii text i utf8 here.0 (omega (arith, quote_there text i here.1))

pub escape_more : (text value rest bytes front back new : List ℕ) (i : ℕ) → unescaped text ≡ value ++ unescaped rest → bytes ≡ rest → FindsPlace is_escape bytes (Some i) → front ≡ take i rest → back ≡ drop (i + 1) rest → new ≡ value ++ front
    → unescaped text ≡ new ++ unescaped back
escape_more text value rest bytes front back new i before same found first last is =
    before
    ∙ ap (λ (t : List ℕ). value ++ t) (escape_first i rest (subst (λ (t : List ℕ). FindsPlace is_escape t (Some i)) same found) ∙ (λ j. sym first j ++ unescaped (sym last j)))
    ∙ sym (append_assoc value front (unescaped back))
    ∙ ap (λ (t : List ℕ). t ++ unescaped back) (sym is)

pub escape_last : (text value rest bytes new : List ℕ) → unescaped text ≡ value ++ unescaped rest → bytes ≡ rest → FindsPlace is_escape bytes None → new ≡ value ++ rest → new ≡ unescaped text
escape_last text value rest bytes new before same none is = is ∙ ap (λ (t : List ℕ). value ++ t) (sym (escape_none rest (subst (λ (t : List ℕ). FindsPlace is_escape t None) same none))) ∙ sym before

-- ---- options

module _ (text name after : List ℕ) (cut : CutsName text name after) where
  same_parts : (o : KeyOption) (rest : List ℕ) (is : IsOptionAt text o rest) → (name ≡ o.name) × (after ≡ is.after)
  same_parts o rest is = same_name name o.name after is.after cut.characters is.characters cut.ends (value_ends is.after o.value rest is.value is.ends) (sym cut.is ∙ is.is)

  pub no_value_there : ((v : Option (List ℕ)) (r : List ℕ) → IsValueAt after v r → EndsOption r → ⊥) → (o : KeyOption) (rest : List ℕ) → IsOptionAt text o rest → ⊥
  no_value_there none o rest is = none o.value rest (subst (λ (t : List ℕ). IsValueAt t o.value rest) (sym (same_parts o rest is).1) is.value) is.ends

  pub no_end_there : (here : List ℕ) → ((v : Option (List ℕ)) (r : List ℕ) → IsValueAt after v r → EndsOption r → r ≡ here) → (EndsOption here → ⊥) → (o : KeyOption) (rest : List ℕ) → IsOptionAt text o rest → ⊥
  no_end_there here one other o rest is = other (subst EndsOption (one o.value rest (subst (λ (t : List ℕ). IsValueAt t o.value rest) (sym (same_parts o rest is).1) is.value) is.ends) is.ends)

pub value_cut : (text after quoted rest : List ℕ) → text ≡ equals_sign ∷ quote ∷ after → (after ≡ quoted ++ (quote ∷ rest)) × IsQuoted quoted
    → IsValueAt text (Some (unescaped quoted)) rest × ((value : Option (List ℕ)) (r : List ℕ) → IsValueAt text value r → EndsOption r → r ≡ rest)
value_cut text after quoted rest is cut = ((quoted, whole, cut.1, refl), one)
  where
    whole : text ≡ equals_sign ∷ quote ∷ (quoted ++ (quote ∷ rest))
    whole = is ∙ ap (λ (t : List ℕ). equals_sign ∷ quote ∷ t) cut.0

    one : (value : Option (List ℕ)) (r : List ℕ) → IsValueAt text value r → EndsOption r → r ≡ rest
    one None r a m = absurd (no_value r (quote ∷ (quoted ++ (quote ∷ rest))) m (sym a ∙ whole))
    one (Some v) r a m = (same_quoted a.0 quoted r rest a.2 cut.1 (ap (drop 2) (sym a.1 ∙ whole))).1

-- ---- lists

pub some_before : (text commas rest : List ℕ) (o : KeyOption) → commas ≡ without_commas text → IsOptionAt commas o rest → HasKeyOptions text → HasKeyOptions rest
some_before text commas rest o skips is ([], h) = absurd (omega (arith, some_option commas o rest is, ap length (skips ∙ h)))
some_before text commas rest o skips is (p ∷ more, h) =
    let same = one_option commas p o h.0 rest (subst (λ (t : List ℕ). IsOptionAt t p h.0) (sym skips) h.1) is in
    (more, subst (λ (t : List ℕ). AreKeyOptions t more) same.1 h.2)

-- where no option stands, no list does, but of none
pub none_left : (text commas : List ℕ) → commas ≡ without_commas text → ((o : KeyOption) (rest : List ℕ) → IsOptionAt commas o rest → ⊥) → (options : List KeyOption) → AreKeyOptions text options → (options ≡ []) × (without_commas text ≡ [])
none_left text commas skips none [] h = (refl, h)
none_left text commas skips none (o ∷ more) h = absurd (none o h.0 (subst (λ (t : List ℕ). IsOptionAt t o h.0) (sym skips) h.1))

at_most_by : (c : ℕ) (text : List ℕ) (b : Bool) → is_comma c ≡ b → length (without_commas text) ≤ length text → length (without_commas (c ∷ text)) ≤ suc (length text)
at_most_by c text true e l = omega (arith, ap length (skipped is_comma c text e), l)
at_most_by c text false e l = omega (arith, ap length (stays is_comma c text e))

pub at_most : (text : List ℕ) → length (without_commas text) ≤ length text
at_most [] = omega (arith, ap length (nothing_stays is_comma))
at_most (c ∷ text) = at_most_by c text (is_comma c) refl (at_most text)

not_longer : (after : List ℕ) (v : Option (List ℕ)) (r : List ℕ) → IsValueAt after v r → length r ≤ length after
not_longer after None r a = omega (arith, ap length a)
not_longer after (Some v) r a = omega (arith, ap length a.1, length-append a.0 (quote ∷ r))

-- what follows an option is shorter
pub shorter : (text commas rest : List ℕ) (o : KeyOption) → commas ≡ without_commas text → IsOptionAt commas o rest → length rest < length text
shorter text commas rest o same is =
    omega (arith, is.some, ap length is.is, length-append o.name is.after, not_longer is.after o.value rest is.value, ap length same, at_most text)

-- What is found among options, one by one.

-- ---- what was read, and what is left

-- The options that were read stand before those that are left.
abbrev pub After : List ℕ → List KeyOption → List ℕ → Type 0
After text before rest = (more : List KeyOption) → AreKeyOptions rest more → AreKeyOptions text (before ++ more)

pub after_one : (text rest commas after : List ℕ) (before : List KeyOption) (o : KeyOption) → After text before rest → commas ≡ without_commas rest → IsOptionAt commas o after → After text (before ++ (o ∷ [])) after
after_one text rest commas after before o h skips is more are =
    subst (AreKeyOptions text) (sym (append_assoc before (o ∷ []) more))
    (h (o ∷ more) (after, subst (λ (t : List ℕ). IsOptionAt t o after) skips is, are))

pub after_all : (text rest : List ℕ) (before : List KeyOption) → After text before rest → without_commas rest ≡ [] → AreKeyOptions text before
after_all text rest before h none = subst (AreKeyOptions text) (append-nil before) (h [] none)

-- What is left to an iterator over options.

pub one_less : {X : Type 0} (answer : X) (old new commas : List ℕ) (o : KeyOption) → commas ≡ without_commas old → IsOptionAt commas o new → MakesProgress (λ _. ⊤) (item_count (λ left. left)) old (Some answer) new
one_less answer old new commas o same is = record { on = λ _. (tt, tt, shorter old commas new o same is); keeps = tt; rests = λ _. tt }

pub nothing_left : {X : Type 0} (answer : X) (old : List ℕ) → 0 < length (without_commas old) → MakesProgress (λ _. ⊤) (item_count (λ left. left)) old (Some answer) []
nothing_left answer old some = record { on = λ _. (tt, tt, omega (arith, some, at_most old)); keeps = tt; rests = λ _. tt }

pub none_there : (old commas : List ℕ) (b : Bool) → commas ≡ without_commas old → b ≡ (length commas == 0) → b ≡ false → IsNoOption commas
    → (◌≡◌ {A = Error} FormatEncoding FormatEncoding) × (0 < length (without_commas old)) × IsNoOption (without_commas old) × (◌≡◌ {A = List ℕ} [] [])
none_there old commas b same e some none =
    let other : length commas ≢ 0 = eqb-false (length commas) 0 (sym e ∙ some) in
    (refl, omega (arith, other, ap length same), λ o rest is. none o rest (subst (λ (t : List ℕ). IsOptionAt t o rest) (sym same) is), refl)

-- where no option stands, some text is no list of options
pub no_options : (old : List ℕ) → 0 < length (without_commas old) → IsNoOption (without_commas old) → HasKeyOptions old → ⊥
no_options old some none h = let left = none_left old (without_commas old) refl none h.0 h.1 in omega (arith, some, ap length left.1)
