-- Names of options are ordered as the map orders its keys.
use Rattle.std.proofs.Common.{◌≡◌, ℕ, ◌<◌, ◌-◌, Bool, true, false, Some, List, [], ◌∷◌, ◌++◌, length, map, option_map, refl, sym, ap, ◌∙◌, arith, bytes_eq, lt-ltb, eq-eqb, suc, Option, None}
use Rattle.std.specs.Prelude.{String, string_bytes, slice_get}
use Rattle.std.specs.BTreeMap.{insert_entry, is_at, BTreeMap, IsFromIterResult}
use Rattle.std.specs.Cmp.{ranks}
use Rattle.std.specs.Cmp.Lexicographic.{slice_cmp}
use Rattle.std.specs.Map.{lookup, keys_of}
use Rattle.std.specs.declared.cmp.Ordering.{Ordering}
use Rattle.std.specs.declared.cmp.Ordering.TheVariants.{Less, Equal, Greater}
use Rattle.std.specs.Ordering.{nat_cmp, is_lt, is_eq, MatchOrdering, eq_by_cmp, ordering_reverse}
use Rattle.std.specs.String.{string_cmp, string_cmp_total}
use Rattle.std.proofs.lemmas.Bool.{ne_eqb, le-ltb}
use Rattle.std.proofs.lemmas.List.{length-append}
use Rattle.std.proofs.lemmas.Cmp.{same_from_slice_cmp, eq_by_cmp_equiv, tied_itself}
use Rattle.std.proofs.lemmas.Slice.Eq.{bytes_eq-Decides}
use Rattle.std.proofs.lemmas.Map.Text.{is_eq-slice_cmp}
use Rattle.sshkey_model.specs.Options.{CertificateOption, is_below, may_follow}
use Rattle.sshkey_model.specs.OptionMaps.{value_of, with_option}
use Rattle.sshkey_cert_values.specs.CertificateFields.{option_of, name_at_end, NamesRise}
use Rattle.std.specs.List.{AllByRecursion}
use Rattle.std.specs.List.Sorted.{IsStrictlySortedBy}
use Rattle.std.proofs.lemmas.Map.{lookup-none}
use Rattle.std.proofs.lemmas.Map.Entries.{lookup_head, lookup_tail, none_past_head, none_below_head}
use Rattle.std.proofs.lemmas.Map.Keys.{sorted_tail, IsDistinct-from_sorted}
use Rattle.std.proofs.lemmas.Map.Lookups.{exact_bytes}
use Rattle.std.proofs.lemmas.Map.Made.{update_all_none}
use Rattle.std.proofs.lemmas.Option.{same_Some}

below_first : (x y : ℕ) (xs ys : List ℕ) → x < y → is_below (x ∷ xs) (y ∷ ys) ≡ true
below_first x y xs ys lt = rw (ne_eqb x y (λ e. omega arith), lt-ltb x y lt) refl

below_same : (x y : ℕ) (xs ys : List ℕ) → x ≡ y → is_below (x ∷ xs) (y ∷ ys) ≡ is_below xs ys
below_same x y xs ys e = rw (e, eq-eqb y y refl) refl

above_first : (x y : ℕ) (xs ys : List ℕ) → y < x → is_below (x ∷ xs) (y ∷ ys) ≡ false
above_first x y xs ys lt = rw (ne_eqb x y (λ e. omega arith), le-ltb x y (omega arith)) refl

step : (x y : ℕ) (xs ys : List ℕ) (o : Ordering) → MatchOrdering o (x < y) (x ≡ y) (y < x) → MatchOrdering o (is_below (x ∷ xs) (y ∷ ys) ≡ true) (is_below (x ∷ xs) (y ∷ ys) ≡ is_below xs ys) (is_below (x ∷ xs) (y ∷ ys) ≡ false)
step x y xs ys Less h = below_first x y xs ys h
step x y xs ys Equal h = below_same x y xs ys h
step x y xs ys Greater h = above_first x y xs ys h

pub below_is : (a b : List ℕ) → is_lt (slice_cmp nat_cmp a b) ≡ is_below a b
below_is a b = same_from_slice_cmp nat_cmp is_lt is_below refl (λ y ys. refl) (λ x xs. refl) (λ x y xs ys o is. step x y xs ys o (rw is (ranks x y))) a b _ refl

pub less_is : (o : Ordering) → is_lt o ≡ true → o ≡ Less
less_is Less e = refl
less_is Equal e = cc
less_is Greater e = cc

-- the last of some
last_get : {A : Type 0} (xs : List A) (x : A) → slice_get (xs ++ x ∷ []) (length xs) ≡ Some x
last_get [] x = refl
last_get (y ∷ xs) x = last_get xs x

long : {A : Type 0} (xs : List A) (x : A) → length (xs ++ x ∷ []) - 1 ≡ length xs
long xs x = omega (arith, length-append xs (x ∷ []))

pub end_added : {Y Z : Type 0} (es : List (String Y × String Z)) (name : String Y) (value : String Z) → name_at_end (es ++ (name, value) ∷ []) ≡ Some (string_bytes name)
end_added es name value = rw (long es (name, value), last_get es (name, value)) refl

-- the value that the map finds
pub found : {Y Z : Type 0} (name : List ℕ) (es : List (String Y × String Z)) → option_map string_bytes (lookup (is_at (λ k. slice_cmp nat_cmp name (string_bytes k))) es) ≡ value_of name (map option_of es)
found name [] = refl
found name (e ∷ es) = go (bytes_eq name (string_bytes e.0)) refl (found name es)
  where
    go : (b : Bool) → bytes_eq name (string_bytes e.0) ≡ b → option_map string_bytes (lookup (is_at (λ k. slice_cmp nat_cmp name (string_bytes k))) es) ≡ value_of name (map option_of es) → option_map string_bytes (lookup (is_at (λ k. slice_cmp nat_cmp name (string_bytes k))) (e ∷ es)) ≡ value_of name (map option_of (e ∷ es))
    go true is rest = rw (is_eq-slice_cmp name (string_bytes e.0), is) refl
    go false is rest = rw (is_eq-slice_cmp name (string_bytes e.0), is) rest

bytes_same : (a b : List ℕ) → bytes_eq a b ≡ true → a ≡ b
bytes_same a b e = (bytes_eq-Decides a b).0 e

-- the option goes to the same place
pub inserted : {Y Z : Type 0} (name : String Y) (value : String Z) (es : List (String Y × String Z)) → map option_of (insert_entry string_cmp es name value) ≡ with_option (option_of (name, value)) (map option_of es)
inserted name value [] = refl
inserted name value (e ∷ es) = go (string_cmp name e.0) refl (inserted name value es)
  where
    go : (o : Ordering) → string_cmp name e.0 ≡ o → map option_of (insert_entry string_cmp es name value) ≡ with_option (option_of (name, value)) (map option_of es) → map option_of (insert_entry string_cmp (e ∷ es) name value) ≡ with_option (option_of (name, value)) (map option_of (e ∷ es))
    go Less is rest =
        let below : is_below (string_bytes name) (string_bytes e.0) ≡ true = sym (below_is (string_bytes name) (string_bytes e.0)) ∙ ap is_lt is in
        let other : bytes_eq (string_bytes name) (string_bytes e.0) ≡ false = sym (is_eq-slice_cmp (string_bytes name) (string_bytes e.0)) ∙ ap is_eq is in
        rw (is, other, below) refl
    go Equal is rest =
        let same : bytes_eq (string_bytes name) (string_bytes e.0) ≡ true = sym (is_eq-slice_cmp (string_bytes name) (string_bytes e.0)) ∙ ap is_eq is in
        rw (is, same, bytes_same (string_bytes name) (string_bytes e.0) same) refl
    go Greater is rest =
        let below : is_below (string_bytes name) (string_bytes e.0) ≡ false = sym (below_is (string_bytes name) (string_bytes e.0)) ∙ ap is_lt is in
        let other : bytes_eq (string_bytes name) (string_bytes e.0) ≡ false = sym (is_eq-slice_cmp (string_bytes name) (string_bytes e.0)) ∙ ap is_eq is in
        rw (is, other, below) (ap (λ (os : List CertificateOption). option_of e ∷ os) rest)

-- Pairs whose names rise, and the map that is built of them.

-- ---- one more pair

module _ {K X : Type 0} (P : K → Type 0) (p : K × X) where
  all_more : (es : List (K × X)) → AllByRecursion P (keys_of es) → P p.0 → AllByRecursion P (keys_of (es ++ p ∷ []))
  all_more [] all one = (one, tt)
  all_more (e ∷ es) all one = (all.0, all_more es all.1 one)

  all_end : (es : List (K × X)) → AllByRecursion P (keys_of (es ++ p ∷ [])) → P p.0
  all_end [] all = all.0
  all_end (e ∷ es) all = all_end es all.1

-- the first of several pairs is not the last
end_after : {Y Z : Type 0} (e f : String Y × String Z) (es : List (String Y × String Z)) → name_at_end (e ∷ f ∷ es) ≡ name_at_end (f ∷ es)
end_after e f es =
    let at : length (e ∷ f ∷ es) - 1 ≡ suc (length (f ∷ es) - 1) = omega arith in
    rw at refl

pub first_rises : (Y Z : Type 0) → NamesRise {Y = Y} {Z = Z} []
unfolding IsStrictlySortedBy
first_rises Y Z = tt

module _ {Y : Type 0} where
  follows : (last name : String Y) → may_follow (Some (string_bytes last)) (string_bytes name) ≡ true → string_cmp last name ≡ Less
  follows last name above = less_is _ (below_is (string_bytes last) (string_bytes name) ∙ above)

  pub rise_more : {Z : Type 0} (es : List (String Y × String Z)) (name : String Y) (value : String Z) → NamesRise es → may_follow (name_at_end es) (string_bytes name) ≡ true → NamesRise (es ++ (name, value) ∷ [])
  unfolding IsStrictlySortedBy
  rise_more [] name value rise above = (tt, tt)
  rise_more (e ∷ []) name value rise above = ((follows e.0 name above, tt), (tt, tt))
  rise_more (e ∷ f ∷ es) name value rise above =
      let rest : NamesRise (f ∷ es ++ (name, value) ∷ []) = rise_more (f ∷ es) name value rise.1 (rw (end_after e f es) at above) in
      let last : string_cmp f.0 name ≡ Less = all_end (λ y. string_cmp f.0 y ≡ Less) (name, value) es rest.0 in
      let less : string_cmp e.0 name ≡ Less = string_cmp_total.trans e.0 f.0 name rise.0.0 last in
      (all_more (λ y. string_cmp e.0 y ≡ Less) (name, value) (f ∷ es) rise.0 less, rest)

-- the greatest name goes to the end
pub insert_end : {Y Z : Type 0} (es : List (String Y × String Z)) (name : String Y) (value : String Z) → NamesRise (es ++ (name, value) ∷ []) → insert_entry string_cmp es name value ≡ es ++ (name, value) ∷ []
unfolding IsStrictlySortedBy
insert_end [] name value rise = refl
insert_end (e ∷ es) name value rise =
    let less : string_cmp e.0 name ≡ Less = all_end (λ y. string_cmp e.0 y ≡ Less) (name, value) es rise.0 in
    let greater : string_cmp name e.0 ≡ Greater = string_cmp_total.antisymm name e.0 ∙ ap ordering_reverse less in
    rw (greater, insert_end es name value rise.1) refl

-- ---- the map

module _ {Y Z : Type 0} where
  abbrev value_at : String Y → List (String Y × String Z) → Option (String Z)
  value_at name es = lookup (is_at (string_cmp name)) es

  own : (e : String Y × String Z) (es : List (String Y × String Z)) → value_at e.0 (e ∷ es) ≡ Some e.1
  own e es = lookup_head (is_at (string_cmp e.0)) e es (ap is_eq (tied_itself string_cmp_total e.0))

  none_below : (name : String Y) (e : String Y × String Z) (es : List (String Y × String Z)) → NamesRise (e ∷ es) → string_cmp name e.0 ≡ Less → value_at name (e ∷ es) ≡ None
  none_below name e es rise less = lookup-none (is_at (string_cmp name)) (e ∷ es) (none_below_head string_cmp_total name e es rise less)

  none_after : (name : String Y) (e : String Y × String Z) (es : List (String Y × String Z)) → NamesRise (e ∷ es) → is_eq (string_cmp name e.0) ≡ true → value_at name es ≡ None
  none_after name e es rise same = lookup-none (is_at (string_cmp name)) es (none_past_head (eq_by_cmp_equiv string_cmp_total) name e es (IsDistinct-from_sorted string_cmp (keys_of (e ∷ es)) rise) same)

  -- two lists that have the same value at each name
  module _ (e f : String Y × String Z) (es fs : List (String Y × String Z)) (rise : NamesRise (e ∷ es)) (others : NamesRise (f ∷ fs)) (same : (name : String Y) → value_at name (e ∷ es) ≡ value_at name (f ∷ fs)) where
    one_name : string_cmp e.0 f.0 ≡ Equal
    one_name = go (string_cmp e.0 f.0) refl
      where
        go : (o : Ordering) → string_cmp e.0 f.0 ≡ o → string_cmp e.0 f.0 ≡ Equal
        go Less is = absurd (cc (own e es, same e.0, none_below e.0 f fs others is))
        go Equal is = is
        go Greater is = absurd (cc (own f fs, same f.0, none_below f.0 e es rise (string_cmp_total.antisymm f.0 e.0 ∙ ap ordering_reverse is)))

    one_text : string_bytes e.0 ≡ string_bytes f.0
    one_text = exact_bytes _ _ one_name

    one_value : e.1 ≡ f.1
    one_value = same_Some e.1 f.1 (sym (own e es) ∙ same e.0 ∙ lookup_head (is_at (string_cmp e.0)) f fs (ap is_eq one_name))

    after : (name : String Y) → value_at name es ≡ value_at name fs
    after name = go (is_eq (string_cmp name e.0)) refl
      where
        tied : is_eq (string_cmp name f.0) ≡ is_eq (string_cmp name e.0)
        tied = ap (λ (bs : List ℕ). is_eq (slice_cmp nat_cmp (string_bytes name) bs)) (sym one_text)

        go : (b : Bool) → is_eq (string_cmp name e.0) ≡ b → value_at name es ≡ value_at name fs
        go true is = none_after name e es rise is ∙ sym (none_after name f fs others (tied ∙ is))
        go false is = sym (lookup_tail (is_at (string_cmp name)) e es is) ∙ same name ∙ lookup_tail (is_at (string_cmp name)) f fs (tied ∙ is)

  same_options : (es fs : List (String Y × String Z)) → NamesRise es → NamesRise fs → ((name : String Y) → value_at name es ≡ value_at name fs) → map option_of es ≡ map option_of fs
  same_options [] [] rise others same = refl
  same_options [] (f ∷ fs) rise others same = absurd (cc (own f fs, same f.0))
  same_options (e ∷ es) [] rise others same = absurd (cc (own e es, same e.0))
  same_options (e ∷ es) (f ∷ fs) rise others same =
      rw (one_text e f es fs rise others same, one_value e f es fs rise others same, same_options es fs (sorted_tail string_cmp e.0 (keys_of es) rise) (sorted_tail string_cmp f.0 (keys_of fs) others) (after e f es fs rise others same)) refl

  -- A map that is built of pairs whose names rise has them as its options.
  pub built : (m : BTreeMap (String Y) (String Z)) (es : List (String Y × String Z)) → NamesRise es → IsFromIterResult string_cmp es m → map option_of m.entries ≡ map option_of es
  built m es rise made = same_options m.entries es made.1 rise (λ name. made.0 name ∙ update_all_none (eq_by_cmp_equiv string_cmp_total) (eq_by_cmp string_cmp) (λ x y. refl) es name (IsDistinct-from_sorted string_cmp (keys_of es) rise))
