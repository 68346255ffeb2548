-- A test that finds values equal exactly where they mean the same is an equivalence.
use Rattle.std.specs.Prelude.{◌≡◌, Bool}
use Rattle.std.specs.Bool.{Decides}
use Rattle.std.specs.Cmp.{IsEquivalence, IsPartialEquivalence, partial_equiv_from_equiv, both_ways}
use Rattle.std.proofs.Common.{refl, sym, ◌∙◌}

module _ {K M : Type 0} (means : K → M) (same : K → K → Bool) (exact : (a b : K) → Decides (same a b) (means a ≡ means b)) where
  pub decided_equivalence : IsEquivalence same
  decided_equivalence = record {
    refl = λ a. (exact a a).1 refl;
    symm = λ a b. both_ways (same a b) (same b a) (λ e. (exact b a).1 (sym ((exact a b).0 e))) (λ e. (exact a b).1 (sym ((exact b a).0 e)));
    congr = λ a b c e. both_ways (same a c) (same b c) (λ h. (exact b c).1 (sym ((exact a b).0 e) ∙ (exact a c).0 h)) (λ h. (exact a c).1 ((exact a b).0 e ∙ (exact b c).0 h));
  }

  pub decided_partial_equivalence : IsPartialEquivalence same
  decided_partial_equivalence = partial_equiv_from_equiv decided_equivalence
