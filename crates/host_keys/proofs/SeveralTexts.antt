-- Whether one of a list has a property, one after the other.
use Rattle.std.proofs.Common.{◌≡◌, ℕ, ◌<◌, ◌≤◌, ◌+◌, List, get_or, length, sym, subst, ◌∙◌, arith, inl, inr, [], ◌++◌, Result, Ok, Err, IfErr, take, drop, ap}
use Rattle.std.proofs.lemmas.Bool.{cases_lt}
use Rattle.std.proofs.lemmas.List.{get_or_default, flat_map_more, take-append-drop, take_all, take_more}
use Rattle.std.specs.List.{Any}
use denote.Ref.{Bor}
use Rattle.std.proofs.lemmas.Grind.{flat_map-append}
use Rattle.std.proofs.lemmas.List.Folds.{length-flat_map-take}
use Rattle.sshkey_entries.specs.Fields.{filled_lines}
use Rattle.sshkey_known_hosts.proofs.Verdicts.{first, later, either}
use Rattle.host_keys.specs.Hosts.{lines_of}

module _ {X : Type 0} (P : X → Type 0) (xs : List X) (i : ℕ) where
  pub none_more : (x : X) → i < length xs → get_or xs i x ≡ x → (P x → ⊥) → ((k : ℕ) (d : X) → k < i → P (get_or xs k d) → ⊥) → (k : ℕ) (d : X) → k < i + 1 → P (get_or xs k d) → ⊥
  none_more x lt is none before k d l = elim (cases_lt k i) [
    | inl less ↦ before k d less
    | inr same ↦
        let e : k ≡ i = omega (arith, l, same) in
        λ p. none (subst P (get_or_default xs i d x lt ∙ is) (subst (λ (n : ℕ). P (get_or xs n d)) e p))
  ]

  pub none_of : length xs ≤ i → ((k : ℕ) (d : X) → k < i → P (get_or xs k d) → ⊥) → Any P xs → ⊥
  none_of end none some = none some.0 some.1 (omega (arith, some.2, end)) (subst P (sym some.3) some.4)

-- What the lines of several texts say, one text more at a time.

-- ---- one text more

-- where this holds, it holds of each error
pub of_error : {X E : Type 0} {Q : Type 0} (r : Result X E) → Q → IfErr r (λ e. Q)
of_error (Ok x) q = tt
of_error (Err e) q = q

module _ (texts : List (Bor (List ℕ))) (i : ℕ) where
  pub all_lines : length texts ≤ i → lines_of (take i texts) ≡ lines_of texts
  all_lines end = ap lines_of (take_all i texts end)

  module _ (d : Bor (List ℕ)) (l : i < length texts) where
    pub more_lines : lines_of (take (i + 1) texts) ≡ lines_of (take i texts) ++ filled_lines (get_or texts i d).now
    more_lines = ap lines_of (take_more texts i d l) ∙ sym (flat_map_more (λ (t : Bor (List ℕ)). filled_lines t.now) [] (take i texts) (get_or texts i d))

    pub some_line : 0 < length (filled_lines (get_or texts i d).now) → 0 < length (lines_of texts)
    some_line some = omega (arith, some, length-flat_map-take (λ (t : Bor (List ℕ)). filled_lines t.now) texts i d l)

    module _ (P : List ℕ → Type 0) where
      pub some_more : Any P (filled_lines (get_or texts i d).now) → Any P (lines_of texts)
      some_more s =
          let lines = λ (t : Bor (List ℕ)). filled_lines t.now in
          let front = subst (Any P) (sym more_lines) (later P (lines_of (take i texts)) (filled_lines (get_or texts i d).now) s) in
          subst (Any P) (sym (flat_map-append lines (take (i + 1) texts) (drop (i + 1) texts)) ∙ ap lines_of (take-append-drop (i + 1) texts))
          (first P (lines_of (take (i + 1) texts)) (lines_of (drop (i + 1) texts)) front)

      pub none_in_more : (Any P (lines_of (take i texts)) → ⊥) → (Any P (filled_lines (get_or texts i d).now) → ⊥) → Any P (lines_of (take (i + 1) texts)) → ⊥
      none_in_more before here s = elim (either P (lines_of (take i texts)) (filled_lines (get_or texts i d).now) (subst (Any P) more_lines s)) [
        | inl a ↦ before a
        | inr b ↦ here b
      ]
