-- Names of algorithms in certificates are read as they are spelled.
use Rattle.std.proofs.Common.{◌≡◌, ℕ, ◌-◌, Option, Some, None, Result, is_none, nat_le, true, false, ◌&&◌, List, [], ◌∷◌, ◌++◌, length, eqb, take, drop, Ok, Err, bytes_eq, refl, sym, ap, subst, ◌∙◌, arith, inl, inr, append_assoc, append-nil}
use Rattle.std.proofs.lemmas.Slice.Eq.{bytes_eq-Decides}
use Rattle.std.proofs.lemmas.Bool.{and_parts, eqb-true}
use Rattle.std.proofs.lemmas.List.{take_at, drop_at, take-append-drop, length-append}
use Rattle.sshkey_model.specs.Parts.{Any, bytes}
use Rattle.sshkey_model.specs.Reading.{Fault, Label}
use Rattle.sshkey_model.specs.Names.{Nistp256, Algorithm, Ecdsa, Rsa, Other, algorithms, algorithm_name, named, are_ascii, is_own_name, is_other_name, at_sign, cut, after_first, is_split, algorithm_or}
use Rattle.sshkey_model.specs.CertificateNames.{suffix, with_suffix, certificate_name, certified, IsCertified, certificate_algorithm, without_suffix, certified_or, certified_from, certificate_algorithm_at}
use Rattle.sshkey_model.specs.Grammar.{Checks}
use Rattle.sshkey_model.proofs.CombinedReaders.{ok_is, chosen, ReadsFront, checked_string_reads}
use Rattle.sshkey_model.proofs.NameReaders.{found}

cut_later : (c : ℕ) (rest : List ℕ) (p : List ℕ × List ℕ) (o : Option (List ℕ × List ℕ)) → ((q : List ℕ × List ℕ) → cut rest ≡ Some q → (rest ≡ q.0 ++ at_sign ∷ q.1) × (cut q.0 ≡ None)) → cut rest ≡ o → eqb c at_sign ≡ false → after_first c o ≡ Some p → (c ∷ rest ≡ p.0 ++ at_sign ∷ p.1) × (cut p.0 ≡ None)
cut_later c rest p None below is no_ f = absurd (cc f)
cut_later c rest p (Some q) below is no_ f =
    let b = below q is in
    let same : (c ∷ q.0, q.1) ≡ p = cc f in
    subst (λ (z : List ℕ × List ℕ). (c ∷ rest ≡ z.0 ++ at_sign ∷ z.1) × (cut z.0 ≡ None)) same (ap (λ (z : List ℕ). c ∷ z) b.0, rw (no_, b.1) refl)

pub cut_parts : (t : List ℕ) (p : List ℕ × List ℕ) → cut t ≡ Some p → (t ≡ p.0 ++ at_sign ∷ p.1) × (cut p.0 ≡ None)
cut_parts [] p e = absurd cc
cut_parts (c ∷ rest) p e =
    elim (chosen (eqb c at_sign) (Some ([], rest)) (after_first c (cut rest)) (Some p) e) [
      | inl here ↦ let same : ([], rest) ≡ p = cc here.1 in subst (λ (q : List ℕ × List ℕ). (c ∷ rest ≡ q.0 ++ at_sign ∷ q.1) × (cut q.0 ≡ None)) same (ap (λ (k : ℕ). k ∷ rest) (eqb-true _ _ here.0), refl)
      | inr later ↦ cut_later c rest p (cut rest) (λ q is. cut_parts rest q is) refl later.0 later.1
    ]

-- no at sign in a, so the first one is in b
pub cut_append : (a b : List ℕ) (q : List ℕ × List ℕ) → cut a ≡ None → cut b ≡ Some q → cut (a ++ b) ≡ Some (a ++ q.0, q.1)
cut_append [] b q none e = e
cut_append (c ∷ a) b q none e =
    elim (chosen (eqb c at_sign) (Some ([], a)) (after_first c (cut a)) None none) [
      | inl here ↦ absurd (cc here.1)
      | inr later ↦ rw (later.0, cut_append a b q (rest_none c (cut a) later.1) e) refl
    ]
  where
    rest_none : (c : ℕ) (o : Option (List ℕ × List ℕ)) → after_first c o ≡ None → o ≡ None
    rest_none c None e = refl
    rest_none c (Some q) e = absurd cc

pub cut_left : (a b : List ℕ) → cut (a ++ b) ≡ None → cut a ≡ None
cut_left [] b none = refl
cut_left (c ∷ a) b none =
    elim (chosen (eqb c at_sign) (Some ([], a ++ b)) (after_first c (cut (a ++ b))) None none) [
      | inl here ↦ absurd (cc here.1)
      | inr later ↦ rw (later.0, cut_left a b (rest_none c (cut (a ++ b)) later.1)) refl
    ]
  where
    rest_none : (c : ℕ) (o : Option (List ℕ × List ℕ)) → after_first c o ≡ None → o ≡ None
    rest_none c None e = refl
    rest_none c (Some q) e = absurd cc

-- a name of two parts, and the same with the suffix
pub suffix_before : (l r : List ℕ) → cut l ≡ None → (cut (l ++ at_sign ∷ r) ≡ Some (l, r)) × (cut (l ++ suffix ++ at_sign ∷ r) ≡ Some (l ++ suffix, r))
suffix_before l r none = (cut_append l (at_sign ∷ r) ([], r) none refl ∙ ap (λ (z : List ℕ). Some (z, r)) (append-nil l), ap cut (append_assoc l suffix (at_sign ∷ r)) ∙ cut_append l (suffix ++ at_sign ∷ r) (suffix, r) none refl)

-- an other name has two parts
pub own_cut : (n : List ℕ) → is_own_name n ≡ true → (p : List ℕ × List ℕ) × (cut n ≡ Some p)
unfolding is_own_name
own_cut n own = go (cut n) (and_parts (are_ascii n && nat_le (length n) 64) (is_split (cut n)) own).1
  where
    go : (o : Option (List ℕ × List ℕ)) → is_split o ≡ true → (p : List ℕ × List ℕ) × (o ≡ Some p)
    go None e = absurd cc
    go (Some p) e = (p, refl)

pub own_parts : (n : List ℕ) → is_other_name n ≡ true → (p : List ℕ × List ℕ) × (cut n ≡ Some p)
unfolding is_other_name
own_parts n is = own_cut n (and_parts (is_own_name n) (is_none (named algorithm_name algorithms n)) is).0

pub stripped_again : (l r n : List ℕ) → n ≡ l ++ at_sign ∷ r → is_other_name n ≡ true → without_suffix (Some (l ++ suffix, r)) ≡ Ok (Other n)
stripped_again l r n e is =
    let size : length (l ++ suffix) - 9 ≡ length l = omega (arith, length-append l suffix) in
    let front : take (length (l ++ suffix) - 9) (l ++ suffix) ≡ l = take_at l suffix _ (sym size) in
    let end_ : drop (length (l ++ suffix) - 9) (l ++ suffix) ≡ suffix = drop_at l suffix _ (sym size) in
    let whole_ : is_other_name (l ++ at_sign ∷ r) ≡ true = subst (λ (z : List ℕ). is_other_name z ≡ true) e is in
    rw (front, end_, whole_, e) refl

pub certified_again : (a : Algorithm) → IsCertified a → certified_or (named certificate_name certified (certificate_name a)) (certificate_name a) ≡ Ok a
unfolding named
certified_again (Ecdsa Nistp256) is = refl
certified_again (Rsa (Some h)) is = absurd is
certified_again (Other n) is =
    let p = own_parts n is.0 in
    let parts = cut_parts n p.0 p.1 in
    let written : with_suffix (cut n) n ≡ p.0.0 ++ suffix ++ at_sign ∷ p.0.1 = ap (λ (o : Option (List ℕ × List ℕ)). with_suffix o n) p.1 in
    ap (λ (o : Option Algorithm). certified_or o (with_suffix (cut n) n)) is.1
    ∙ ap (λ (t : List ℕ). without_suffix (cut t)) written
    ∙ ap without_suffix (suffix_before p.0.0 p.0.1 parts.1).1
    ∙ stripped_again p.0.0 p.0.1 n parts.0 is.0
certified_again _ is = refl

-- what is left of a text without the suffix before its at sign
abbrev pub IsStripped : List ℕ → Result Algorithm Fault → Type 0
IsStripped t (Ok a) = (n : List ℕ) × (a ≡ Other n) × (is_other_name n ≡ true) × (certificate_name (Other n) ≡ t)
IsStripped t (Err fault) = fault ≡ Label

stripped_is : (t : List ℕ) (o : Option (List ℕ × List ℕ)) → cut t ≡ o → IsStripped t (without_suffix o)
stripped_is t None split = refl
stripped_is t (Some p) split =
    let l = take (length p.0 - 9) p.0 in
    let bare = l ++ at_sign ∷ p.1 in
    elim (chosen (bytes_eq (drop (length p.0 - 9) p.0) suffix) (algorithm_or None bare) (Err Label) (without_suffix (Some p)) refl) [
      | inl yes_ ↦
          let both : p.0 ≡ l ++ suffix = sym (take-append-drop (length p.0 - 9) p.0) ∙ ap (λ (z : List ℕ). l ++ z) ((bytes_eq-Decides _ _).0 yes_.0) in
          let parts = cut_parts t p split in
          let clean : cut l ≡ None = cut_left l suffix (subst (λ (z : List ℕ). cut z ≡ None) both parts.1) in
          let spelled : certificate_name (Other bare) ≡ t = ap (λ (o : Option (List ℕ × List ℕ)). with_suffix o bare) (suffix_before l p.1 clean).0 ∙ ap (λ (z : List ℕ). z ++ at_sign ∷ p.1) (sym both) ∙ sym parts.0 in
          elim (chosen (is_other_name bare) (Ok (Other bare)) (Err Label) (algorithm_or None bare) refl) [
            | inl other ↦ subst (IsStripped t) (other.1 ∙ yes_.1) (bare, refl, other.0, spelled)
            | inr no_ ↦ subst (IsStripped t) (no_.1 ∙ yes_.1) refl
          ]
      | inr no_ ↦ subst (IsStripped t) no_.1 refl
    ]

pub certified_is : (t : List ℕ) → named certificate_name certified t ≡ None → IsStripped t (certified_from t)
certified_is t fresh = subst (IsStripped t) (ap (λ (o : Option Algorithm). certified_or o t) (sym fresh)) (stripped_is t (cut t) refl)

certified_takes : (o : Option Algorithm) (t : List ℕ) (a : Algorithm) → named certificate_name certified t ≡ o → certified_or o t ≡ Ok a → IsCertified a × (certificate_name a ≡ t)
certified_takes (Some x) t a from e = subst (λ (z : Algorithm). IsCertified z × (certificate_name z ≡ t)) (ok_is x a e) (found IsCertified certificate_name certified t x (assumption) from)
certified_takes None t a from e =
    let s = subst (IsStripped t) e (stripped_is t (cut t) refl) in
    subst (λ (z : Algorithm). IsCertified z × (certificate_name z ≡ t)) (sym s.1) ((s.2, rw s.3 from), s.3)

pub certified_checks : Checks Any bytes IsCertified (λ a. bytes (certificate_name a)) certified_from
certified_checks = record {
  takes = λ t a was e. let c = certified_takes (named certificate_name certified t) t a refl e in (c.0, ap bytes (sym c.1));
  again = λ a is. (certificate_name a, tt, certified_again a is, refl);
}

pub certificate_algorithm_reads : ReadsFront IsCertified certificate_algorithm certificate_algorithm_at
unfolding certificate_algorithm_at
certificate_algorithm_reads = checked_string_reads certified_checks
