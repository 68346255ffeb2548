-- Names that are none of the fixed ones.
use Rattle.std.proofs.Common.{◌≡◌, ◌≢◌, ℕ, Option, None, Result, Ok, Err, IsErrAnd, List, [], ◌∷◌, Bool, true, false, ◌&&◌, cond, bytes_eq, refl, sym, ap, ◌∙◌, inl, inr}
use Rattle.std.specs.List.{AllByRecursion}
use Rattle.std.proofs.lemmas.Bool.{false_from_ne_true}
use Rattle.std.proofs.lemmas.Slice.Eq.{bytes_eq-Decides}
use Rattle.sshkey_model.specs.Reading.{Fault, Label, string_at}
use Rattle.sshkey_model.specs.Names.{Algorithm, Other, algorithm_name, algorithms, named, is_own_name, is_other_name, algorithm_or, algorithm_from, NeedsAlgorithm}
use Rattle.sshkey_model.proofs.CombinedReaders.{chosen}
use Rattle.sshkey_base.specs.Causes.{Cause, NoMemory, Faulty, cause}
use Rattle.sshkey_base.specs.Labels.{LooksUp}
use Rattle.sshkey_model.specs.Labels.{label_at}
use Rattle.sshkey_base.specs.declared.encoding.Error as narrow
use Rattle.sshkey_base.specs.declared.encoding.Error.TheVariants as encoding
use Rattle.sshkey_base.specs.Answers.{IsUnknown, Judges, Names}
use Rattle.sshkey_base.specs.AlgorithmName.{own_name_from}

-- a text that differs from each name of a table
pub named-none : {A : Type 0} (name : A → List ℕ) (xs : List A) (t : List ℕ) → AllByRecursion (λ a. t ≢ name a) xs → named name xs t ≡ None
unfolding named
named-none name [] t apart = refl
named-none name (a ∷ xs) t apart =
    let first : bytes_eq (name a) t ≡ false = false_from_ne_true _ (λ e. apart.0 (sym ((bytes_eq-Decides (name a) t).0 e))) in
    rw (first, named-none name xs t apart.1) refl

and-true : (b : Bool) → (b && true) ≡ b
and-true true = refl
and-true false = refl

own_or : (t : List ℕ) (r : Result Algorithm Fault) → named algorithm_name algorithms t ≡ None → cond (is_own_name t) (Ok (Other t)) (Err Label) ≡ r → algorithm_from t ≡ r
unfolding is_other_name
own_or t r none e =
    let same : is_other_name t ≡ is_own_name t = rw none (and-true (is_own_name t)) in
    ap (λ (o : Option Algorithm). algorithm_or o t) none ∙ rw same e

pub other_from : (t n : List ℕ) → named algorithm_name algorithms t ≡ None → own_name_from t ≡ Ok n → algorithm_from t ≡ Ok (Other n)
other_from t n none e =
    elim (chosen (is_own_name t) (Ok t) (Err Label) (Ok n) e) [
      | inl yes_ ↦ own_or t (Ok (Other n)) none (rw yes_.0 (cc yes_.1))
      | inr no_ ↦ absurd (cc no_.1)
    ]

pub unknown_from : (t : List ℕ) → named algorithm_name algorithms t ≡ None → own_name_from t ≡ Err Label → algorithm_from t ≡ Err Label
unknown_from t none e =
    elim (chosen (is_own_name t) (Ok t) (Err Label) (Err Label) e) [
      | inl yes_ ↦ absurd (cc yes_.1)
      | inr no_ ↦ own_or t (Err Label) none (rw no_.0 refl)
    ]

pub not_own : (t : List ℕ) → named algorithm_name algorithms t ≡ None → algorithm_from t ≡ Err Label → is_own_name t ≡ false
not_own t none e =
    elim (chosen (is_own_name t) (Ok (Other t)) (Err Label) (Err Label) (sym (own_or t _ none refl) ∙ e)) [
      | inl yes_ ↦ absurd (cc yes_.1)
      | inr no_ ↦ no_.0
    ]

-- the error of an inner call is handed on
pub handed_on : {X E : Type 0} (result : Result X E) (d e : E) → IsErrAnd result (λ x. x ≡ d) → d ≡ e → result ≡ Err e
handed_on (Ok x) d e is same = absurd is
handed_on (Err x) d e is same = ap (λ (z : _). Err z) (is ∙ same)

pub names_unknown : {X Y Z E : Type 0} (means : X → Y) (cause : E → Cause) (found : Result Z Fault) (wanted : Result Y Fault) (e : E) (result : Result X E) → IsErrAnd result (λ x. x ≡ e) → (found ≡ Err Label → wanted ≡ Err Label) → (cause e ≢ NoMemory → IsUnknown found (cause e)) → Names means cause wanted result
names_unknown means cause found wanted e (Ok x) is same met = absurd is
names_unknown means cause found wanted e (Err x) is same met = λ some.
    let unknown = met (λ none. some (ap cause is ∙ none)) in
    record { none = same unknown.none; label = ap cause is ∙ unknown.label }

pub looked_up : {X : Type 0} (means : X → Algorithm) (t : List ℕ) (e : narrow.Error) (result : Result X narrow.Error) → IsErrAnd result (λ x. x ≡ e) → named algorithm_name algorithms t ≡ None → (e ≢ encoding.Memory → (own_name_from t ≡ Err Label) × (e ≡ encoding.Label)) → LooksUp means algorithm_from t result
looked_up means t e (Ok x) is none met = absurd is
looked_up means t e (Err x) is none met = λ some.
    let unknown = met (λ memory. some (is ∙ memory)) in
    (unknown_from t none unknown.0, is ∙ unknown.1)

-- where memory was refused, the name is a private-use one
pub other_asked : (t : List ℕ) (c : Cause) → named algorithm_name algorithms t ≡ None → (is_own_name t ≡ false → c ≡ Faulty Label) → c ≡ NoMemory → (b rest : List ℕ) (m : ℕ) → string_at b ≡ Ok (t, rest) → NeedsAlgorithm b m
unfolding label_at
other_asked t c none refused memory b rest m read = go (is_own_name t) refl
  where
    go : (own : Bool) → is_own_name t ≡ own → NeedsAlgorithm b m
    go true own =
        let from : algorithm_from t ≡ Ok (Other t) = own_or t (Ok (Other t)) none (rw own refl) in
        rw (read, from) tt
    go false own = let not = refused own in absurd (cc (memory, not))

-- ---- calls that only judge

pub own_judged : {E : Type 0} (cause : E → Cause) (t : List ℕ) (r : Result (Unit {0}) E) → named algorithm_name algorithms t ≡ None → Judges cause (own_name_from t) r → Judges cause (algorithm_from t) r
own_judged cause t r none h =
    elim (chosen (is_own_name t) (Ok t) (Err Label) (own_name_from t) refl) [
      | inl yes_ ↦ let own = sym yes_.1 in rw (other_from t t none own) (rw own at h)
      | inr no_ ↦ let own = sym no_.1 in rw (unknown_from t none own) (rw own at h)
    ]
