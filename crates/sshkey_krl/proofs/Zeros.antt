-- The bytes after leading zeros, one zero after the other.
use Rattle.std.proofs.Common.{◌≡◌, ℕ, zero, suc, List, [], ◌∷◌, length, refl, sym, subst, ◌∙◌}
use Rattle.std.proofs.lemmas.List.{nil_from_length}
use Rattle.sshkey_krl.specs.Revocation.{significant}

pub zero_first : (bytes rest after : List ℕ) (c : ℕ) → rest ≡ c ∷ after → c ≡ 0 → significant rest ≡ significant bytes → significant after ≡ significant bytes
unfolding significant
zero_first bytes rest after c is none same = rw (is, none) at same

first : (c : ℕ) (after : List ℕ) → (c ≡ 0 → ⊥) → significant (c ∷ after) ≡ c ∷ after
unfolding significant
first zero after some = absurd (some refl)
first (suc n) after some = refl

pub other_first : (bytes rest after : List ℕ) (c : ℕ) → rest ≡ c ∷ after → (c ≡ 0 → ⊥) → significant rest ≡ significant bytes → rest ≡ significant bytes
other_first bytes rest after c is some same = is ∙ sym (first c after some) ∙ subst (λ (z : List ℕ). significant z ≡ significant bytes) is same

pub none_left : (bytes rest : List ℕ) → rest ≡ [] → significant rest ≡ significant bytes → rest ≡ significant bytes
unfolding significant
none_left bytes rest none same = none ∙ subst (λ (z : List ℕ). significant z ≡ significant bytes) none same

pub all_left : (bytes rest : List ℕ) → length rest ≡ 0 → significant rest ≡ significant bytes → rest ≡ significant bytes
all_left bytes rest none same = none_left bytes rest (nil_from_length rest none) same

pub ruleset zeros = (zero_first, other_first, none_left, all_left)
