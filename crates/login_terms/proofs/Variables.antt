-- A text that begins with a variable's name, and goes on with `=`.
use Rattle.std.proofs.Common.{◌≡◌, ◌∙◌, ◌↔◌, ℕ, List, ◌∷◌, ◌++◌, false, true, ap, subst, sym, zero, suc, ◌+◌, ◌<◌, ◌≤◌, [], length, get_or, inl, inr, refl, arith}
use Rattle.std.proofs.lemmas.List.{append_cancel_left, get_or_default}
use Rattle.std.proofs.lemmas.List.Sums.{AllPass-from_list_all}
use Rattle.sshkey_model.specs.Lines.{IsWithout}
use Rattle.login_terms.specs.Values.{IsVariable, IsVariableName, equals_sign, is_variable_character}
use Rattle.std.proofs.lemmas.Bool.{cases_lt}
use Rattle.std.specs.Prelude.{map}
use Rattle.std.specs.List.{Any}

other : (c : ℕ) → is_variable_character c ≡ true → c ≡ equals_sign → ⊥
other c named same = let never : false ≡ true = subst (λ (n : ℕ). is_variable_character n ≡ true) same named in absurd cc

without_equals : (name : List ℕ) → IsVariableName name → IsWithout equals_sign name
without_equals name named i l = other _ (AllPass-from_list_all is_variable_character name named.1 i 0 l)

pub goes_on : (text name rest : List ℕ) → IsVariableName name → text ≡ name ++ rest → ((value : List ℕ) × (rest ≡ equals_sign ∷ value)) ↔ IsVariable text name
goes_on text name rest named is = (
  λ v. record { value = v.0; is = is ∙ ap (λ (r : List ℕ). name ++ r) v.1; up_to = without_equals name named; name_is = named },
  λ v. (v.value, append_cancel_left name rest (equals_sign ∷ v.value) (sym is ∙ v.is)),
)

-- Some of what a list holds, and of what it is made of.

module _ {X Y : Type 0} (P : Y → Type 0) (f : X → Y) where
  later : (x : X) (xs : List X) → Any (λ z. P (f z)) xs → Any (λ z. P (f z)) (x ∷ xs)
  later x xs any = (suc any.0, any.1, omega (arith, any.2), any.3, any.4)

  pub of_these : (xs : List X) → Any P (map f xs) → Any (λ z. P (f z)) xs
  of_these [] (k, y, l, is, p) = absurd (omega (arith, l))
  of_these (x ∷ xs) (zero, y, l, is, p) = (zero, x, omega arith, refl, subst P (sym is) p)
  of_these (x ∷ xs) (suc k, y, l, is, p) = later x xs (of_these xs (k, y, omega (arith, l), is, p))

  after : (y : Y) (ys : List Y) → Any P ys → Any P (y ∷ ys)
  after y ys any = (suc any.0, any.1, omega (arith, any.2), any.3, any.4)

  pub of_those : (xs : List X) → Any (λ z. P (f z)) xs → Any P (map f xs)
  of_those [] (k, y, l, is, p) = absurd (omega (arith, l))
  of_those (x ∷ xs) (zero, y, l, is, p) = (zero, f x, omega arith, refl, subst (λ z. P (f z)) (sym is) p)
  of_those (x ∷ xs) (suc k, y, l, is, p) = after (f x) (map f xs) (of_those xs (k, y, omega (arith, l), is, p))

module _ {X : Type 0} (P : X → Type 0) (xs : List X) (i : ℕ) where
  pub none_more : (x : X) → i < length xs → get_or xs i x ≡ x → (P x → ⊥) → ((k : ℕ) (d : X) → k < i → P (get_or xs k d) → ⊥) → (k : ℕ) (d : X) → k < i + 1 → P (get_or xs k d) → ⊥
  none_more x lt is none before k d l = elim (cases_lt k i) [
    | inl less ↦ before k d less
    | inr same ↦
        let e : k ≡ i = omega (arith, l, same) in
        λ p. none (subst P (get_or_default xs i d x lt ∙ is) (subst (λ (n : ℕ). P (get_or xs n d)) e p))
  ]

  pub none_of : length xs ≤ i → ((k : ℕ) (d : X) → k < i → P (get_or xs k d) → ⊥) → Any P xs → ⊥
  none_of end none some = none some.0 some.1 (omega (arith, some.2, end)) (subst P (sym some.3) some.4)
