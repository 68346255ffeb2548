-- One option is inserted into a map.
use Rattle.std.proofs.Common.{◌≡◌, ℕ, List, [], ◌∷◌, Bool, true, false, Option, Some, refl, sym, ◌∙◌, cond, bytes_eq}
use Rattle.std.proofs.lemmas.Slice.Eq.{bytes_eq-Decides}
use Rattle.sshkey_model.specs.Options.{CertificateOption, is_below}
use Rattle.sshkey_model.specs.OptionMaps.{value_of, with_option}

-- an option of the same name stands there
replaced : (name same was : List ℕ) (a : Option (List ℕ)) (b : Option (List ℕ)) (rest : Option (List ℕ)) → same ≡ was → cond (bytes_eq name same) a rest ≡ cond (bytes_eq name same) a (cond (bytes_eq name was) b rest)
replaced name same was a b rest e = by_test (bytes_eq name same) refl
  where
    by_test : (t : Bool) → bytes_eq name same ≡ t → cond (bytes_eq name same) a rest ≡ cond (bytes_eq name same) a (cond (bytes_eq name was) b rest)
    by_test true h = rw h refl
    by_test false h = rw (← e, h) refl

-- of two different names one is not the other
either : (name x y : List ℕ) (a b rest : Option (List ℕ)) → bytes_eq x y ≡ false → cond (bytes_eq name y) b (cond (bytes_eq name x) a rest) ≡ cond (bytes_eq name x) a (cond (bytes_eq name y) b rest)
either name x y a b rest differ = by_tests (bytes_eq name x) (bytes_eq name y) refl refl
  where
    by_tests : (s t : Bool) → bytes_eq name x ≡ s → bytes_eq name y ≡ t → cond (bytes_eq name y) b (cond (bytes_eq name x) a rest) ≡ cond (bytes_eq name x) a (cond (bytes_eq name y) b rest)
    by_tests true true h i =
        let both : bytes_eq x y ≡ true = (bytes_eq-Decides x y).1 (sym ((bytes_eq-Decides name x).0 h) ∙ (bytes_eq-Decides name y).0 i) in
        absurd cc
    by_tests true false h i = rw (h, i) refl
    by_tests false true h i = rw (h, i) refl
    by_tests false false h i = rw (h, i) refl

pub inserted : (o : CertificateOption) (os : List CertificateOption) (name : List ℕ) → value_of name (with_option o os) ≡ cond (bytes_eq name o.name) (Some o.value) (value_of name os)
inserted o [] name = refl
inserted o (p ∷ ps) name = by_name (inserted o ps name) (bytes_eq o.name p.name) (is_below o.name p.name) refl refl
  where
    by_name : value_of name (with_option o ps) ≡ cond (bytes_eq name o.name) (Some o.value) (value_of name ps) → (s b : Bool) → bytes_eq o.name p.name ≡ s → is_below o.name p.name ≡ b → value_of name (with_option o (p ∷ ps)) ≡ cond (bytes_eq name o.name) (Some o.value) (value_of name (p ∷ ps))
    by_name rest true b e f = rw e (replaced name o.name p.name (Some o.value) (Some p.value) (value_of name ps) ((bytes_eq-Decides o.name p.name).0 e))
    by_name rest false true e f = rw (e, f) refl
    by_name rest false false e f = rw (e, f, rest) (either name o.name p.name (Some o.value) (Some p.value) (value_of name ps) e)
