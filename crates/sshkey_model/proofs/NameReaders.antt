-- Names of algorithms, curves and hashes are read as they are spelled.
use Rattle.std.proofs.Common.{◌≡◌, ℕ, Option, Some, None, is_none, true, List, [], ◌∷◌, Ok, Err, bytes_eq, refl, sym, ap, subst, ◌∙◌, inl, inr}
use Rattle.std.specs.List.{AllByRecursion}
use Rattle.std.proofs.lemmas.Slice.Eq.{bytes_eq-Decides}
use Rattle.std.proofs.lemmas.Bool.{and_parts}
use Rattle.sshkey_model.specs.Parts.{bytes}
use Rattle.sshkey_model.specs.Reading.{Label}
use Rattle.sshkey_model.specs.Names.{Curve, Nistp256, Hash, Sha256, Sha512, Algorithm, Ecdsa, Rsa, Other, curves, hashes, algorithms, curve_name, hash_name, algorithm_name, named, is_own_name, is_other_name, IsAlgorithm, algorithm, or_label, algorithm_or, algorithm_from, algorithm_at, curve, curve_from, curve_at, hash, hash_from, hash_at}
use Rattle.sshkey_model.specs.Grammar.{Checks}
use Rattle.sshkey_model.specs.Labels.{label_at}
use Rattle.sshkey_model.proofs.CombinedReaders.{ok_is, done, chosen, ReadsFront, Any, checked_string_reads}

-- what is found in a table has that name
pub found : {A : Type 0} (P : A → Type 0) (name : A → List ℕ) (xs : List A) (t : List ℕ) (a : A) → AllByRecursion P xs → named name xs t ≡ Some a → P a × (name a ≡ t)
unfolding named
found P name [] t a all e = absurd cc
found P name (x ∷ xs) t a all e =
    elim (chosen (bytes_eq (name x) t) (Some x) (named name xs t) (Some a) e) [
      | inl yes_ ↦ let same : x ≡ a = cc yes_.1 in subst (λ (z : _). P z × (name z ≡ t)) same (all.0, (bytes_eq-Decides (name x) t).0 yes_.0)
      | inr no_ ↦ found P name xs t a all.1 no_.1
    ]

-- A name in a table is what its value is called.
pub table_checks : {A : Type 0} (name : A → List ℕ) (xs : List A) → AllByRecursion Any xs → ((a : A) → named name xs (name a) ≡ Some a) → Checks Any bytes Any (λ a. bytes (name a)) (λ t. or_label (named name xs t))
table_checks {A} name xs all each = record {
  takes = λ t a was e. (tt, ap bytes (sym (found Any name xs t a all (some_is (named name xs t) a e)).1));
  again = λ a is. (name a, tt, rw (each a) refl, refl);
}
  where
    some_is : (o : Option A) (a : A) → or_label o ≡ Ok a → o ≡ Some a
    some_is (Some x) a e = ap (λ (z : A). Some z) (ok_is x a e)
    some_is None a e = absurd cc

each_curve : (c : Curve) → named curve_name curves (curve_name c) ≡ Some c
unfolding named
each_curve Nistp256 = refl
each_curve _ = refl

pub curve_checks : Checks Any bytes Any (λ c. bytes (curve_name c)) curve_from
curve_checks = table_checks curve_name curves (assumption) each_curve

pub curve_reads : ReadsFront Any curve curve_at
unfolding label_at
curve_reads = checked_string_reads curve_checks

each_hash : (h : Hash) → named hash_name hashes (hash_name h) ≡ Some h
unfolding named
each_hash Sha256 = refl
each_hash Sha512 = refl

pub hash_checks : Checks Any bytes Any (λ h. bytes (hash_name h)) hash_from
hash_checks = table_checks hash_name hashes (assumption) each_hash

pub hash_reads : ReadsFront Any hash hash_at
unfolding label_at
hash_reads = checked_string_reads hash_checks

-- an other name is no fixed one
unlisted : (n : List ℕ) → is_other_name n ≡ true → named algorithm_name algorithms n ≡ None
unfolding is_other_name
unlisted n is = none_is (named algorithm_name algorithms n) (and_parts (is_own_name n) (is_none (named algorithm_name algorithms n)) is).1
  where
    none_is : (o : Option Algorithm) → is_none o ≡ true → o ≡ None
    none_is None e = refl
    none_is (Some a) e = absurd cc

algorithm_again : (a : Algorithm) → IsAlgorithm a → algorithm_or (named algorithm_name algorithms (algorithm_name a)) (algorithm_name a) ≡ Ok a
unfolding named
algorithm_again (Ecdsa Nistp256) is = refl
algorithm_again (Rsa (Some Sha256)) is = refl
algorithm_again (Other n) is = ap (λ (o : Option Algorithm). algorithm_or o n) (unlisted n is) ∙ rw is refl
algorithm_again _ is = refl

algorithm_takes : (o : Option Algorithm) (n : List ℕ) (a : Algorithm) → named algorithm_name algorithms n ≡ o → algorithm_or o n ≡ Ok a → IsAlgorithm a × (algorithm_name a ≡ n)
algorithm_takes (Some x) n a from e = subst (λ (z : Algorithm). IsAlgorithm z × (algorithm_name z ≡ n)) (ok_is x a e) (found IsAlgorithm algorithm_name algorithms n x (assumption) from)
algorithm_takes None n a from e =
    elim (chosen (is_other_name n) (done (Other n)) (Err Label) (Ok a) e) [
      | inl yes_ ↦ subst (λ (z : Algorithm). IsAlgorithm z × (algorithm_name z ≡ n)) (ok_is (Other n) a yes_.1) (yes_.0, refl)
      | inr no_ ↦ absurd (cc no_.1)
    ]

pub algorithm_checks : Checks Any bytes IsAlgorithm (λ a. bytes (algorithm_name a)) algorithm_from
algorithm_checks = record {
  takes = λ n a was e. let t = algorithm_takes (named algorithm_name algorithms n) n a refl e in (t.0, ap bytes (sym t.1));
  again = λ a is. (algorithm_name a, tt, algorithm_again a is, refl);
}

pub algorithm_reads : ReadsFront IsAlgorithm algorithm algorithm_at
unfolding label_at
algorithm_reads = checked_string_reads algorithm_checks
