-- What an option adds whose value is read as one.
use Rattle.std.proofs.Common.{◌≡◌, ◌∙◌, ◌<◌, ◌≤◌, ℕ, List, [], ◌∷◌, ◌++◌, length, inl, inr, ap, subst, sym, arith}
use Rattle.std.specs.List.{Any}
use Rattle.login_terms.specs.Options.{AddsVariable, Terms}
use Rattle.login_terms.specs.Values.{HostAndPort, IsVariable}

module _ {N : Type 0} (Holds : N → Type 0) (May : Type 0) (add : N → Terms) where
  abbrev pub Added : Terms → Type 0
  Added t = (n : N) × Holds n × (t ≡ add n)

  pub adds : (n : N) (t : Terms) → t ≡ add n → Holds n × ((m : N) → Holds m → m ≡ n) × (May → ⊥) → Added t × ((u : Terms) → Added u → u ≡ t) × (May → ⊥)
  adds n t e told = ((n, told.0, e), (λ u is. is.2 ∙ ap add (told.1 is.0 is.1) ∙ sym e), told.2)

  pub adds_none : ((m : N) → Holds m → ⊥) → (u : Terms) → Added u → ⊥
  adds_none none u is = none is.0 is.1

-- ---- hosts and ports

module _ (Holds : HostAndPort → Type 0) (May : Type 0) (put : List HostAndPort → Terms) (old : List HostAndPort) where
  abbrev pub Permits : Terms → Type 0
  Permits t = (length old < 4097) × ((p : HostAndPort) × Holds p × (t ≡ put (old ++ (p ∷ []))))

  pub one_permit : (p : HostAndPort) (new : List HostAndPort) → length old < 4097 → new ≡ old ++ (p ∷ []) → Holds p × ((q : HostAndPort) → Holds q → q ≡ p) × (May → ⊥) → Permits (put new) × ((u : Terms) → Permits u → u ≡ put new) × (May → ⊥)
  one_permit p new room e told = (
    (room, (p, told.0, ap put e)),
    (λ u is. is.1.2 ∙ ap (λ (q : HostAndPort). put (old ++ (q ∷ []))) (told.1 is.1.0 is.1.1) ∙ ap put (sym e)),
    told.2,
  )

  pub no_permit : ((p : HostAndPort) → Holds p → ⊥) → (u : Terms) → Permits u → ⊥
  no_permit none u is = none is.1.0 is.1.1

  pub no_room : 4097 ≤ length old → (u : Terms) → Permits u → ⊥
  no_room full u is = omega (arith, full, is.0)

-- ---- variables

module _ (v : List ℕ) (put : List (List ℕ) → Terms) (old : List (List ℕ)) where
  abbrev pub Variables : Terms → Type 0
  Variables t = (length old < 1025) × ((e : List (List ℕ)) × AddsVariable v old e × (t ≡ put e))

  pub no_variable : ((name : List ℕ) → IsVariable v name → ⊥) → (u : Terms) → Variables u → ⊥
  no_variable none u is = none is.1.1.0 is.1.1.1

  module _ (name : List ℕ) (room : length old < 1025) (own : IsVariable v name) (one : (n : List ℕ) → IsVariable v n → n ≡ name) where
    pub known : Any (λ w. IsVariable w name) old → Variables (put old) × ((u : Terms) → Variables u → u ≡ put old)
    known any = (
      (room, (old, (name, own, inl (any, λ j. old)), λ j. put old)),
      λ u is. elim is.1.1.2 [
        | inl same ↦ is.1.2 ∙ ap put same.1
        | inr new ↦ absurd (new.0 (subst (λ (n : List ℕ). Any (λ w. IsVariable w n) old) (sym (one is.1.1.0 is.1.1.1)) any))
      ],
    )

    pub new_one : (Any (λ w. IsVariable w name) old → ⊥) → (new : List (List ℕ)) → new ≡ old ++ (v ∷ []) → Variables (put new) × ((u : Terms) → Variables u → u ≡ put new)
    new_one none new e = (
      (room, (new, (name, own, inr (none, e)), λ j. put new)),
      λ u is. elim is.1.1.2 [
        | inl same ↦ absurd (none (subst (λ (n : List ℕ). Any (λ w. IsVariable w n) old) (one is.1.1.0 is.1.1.1) same.0))
        | inr other ↦ is.1.2 ∙ ap put (other.1 ∙ sym e)
      ],
    )
