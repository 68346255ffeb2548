-- Texts without a byte 0, one after the other.
use Rattle.std.proofs.Common.{◌≡◌, ◌≢◌, ℕ, zero, suc, ◌<◌, ◌≤◌, ◌+◌, ◌↔◌, List, [], ◌∷◌, Bool, true, false, map, IsTrue, get_or, length, refl, sym, subst, ◌∙◌, arith, inl, inr}
use Rattle.std.proofs.lemmas.Bool.{cases_lt, eqb-true}
use Rattle.std.proofs.lemmas.Bool.Decides.{nat_tests}
use Rattle.std.proofs.lemmas.List.{get_or_default, length-map}
use Rattle.std.proofs.lemmas.List.Elements.{All-cons, All-head, All-map, All-nil, All-tail}
use Rattle.std.specs.Prelude.{◌==◌, All, String, replicate, string_bytes}
use Rattle.sshkey_model.specs.Lines.{IsWithout}
use Rattle.openssh_limits.specs.Limits.{openssh_reads_text, AreReadPrincipals}

-- ---- a text

here : (c : ℕ) (text : List ℕ) → c ≢ 0 → IsWithout 0 text → IsWithout 0 (c ∷ text)
here c text some rest zero l = some
here c text some rest (suc i) l = rest i (omega (arith, l))

one_byte : (c : ℕ) (text : List ℕ) (test : Bool) → (c == 0) ≡ test → (IsTrue (openssh_reads_text text) ↔ IsWithout 0 text) → IsTrue (openssh_reads_text (c ∷ text)) ↔ IsWithout 0 (c ∷ text)
one_byte c text true e rest = rw e (λ yes. absurd cc, λ is. absurd (is 0 (omega arith) (eqb-true c 0 e)))
one_byte c text false e rest =
    let some : 0 < c = grind (arith, nat_tests) in
    rw e (λ yes. here c text (λ none. absurd (omega (arith, some, none))) (rest.0 yes), λ is. rest.1 (λ i l. is (suc i) (omega (arith, l))))

pub without : (text : List ℕ) → IsTrue (openssh_reads_text text) ↔ IsWithout 0 text
without [] = (λ yes i l. absurd (omega (arith, l)), λ is. refl)
without (c ∷ text) = one_byte c text (c == 0) refl (without text)

-- ---- texts

-- one element more that has the property
pub one_more : {X : Type 0} (P : X → Type 0) (xs : List X) (i : ℕ) (x : X) → i < length xs → get_or xs i x ≡ x → P x → ((k : ℕ) (d : X) → k < i → P (get_or xs k d)) → (k : ℕ) (d : X) → k < i + 1 → P (get_or xs k d)
one_more P xs i x lt is one before k d l = elim (cases_lt k i) [
  | inl less ↦ before k d less
  | inr same ↦
      let e : k ≡ i = omega (arith, l, same) in
      subst (λ (n : ℕ). P (get_or xs n d)) (sym e) (subst P (sym (get_or_default xs i d x lt ∙ is)) one)
]

-- ---- principals

pub all_same : {X : Type 0} (P : X → Type 0) (x : X) → P x → (n : ℕ) → All P (replicate n x)
all_same P x is zero = All-nil P
all_same P x is (suc n) = All-cons P x (replicate n x) is (all_same P x is n)

pub too_many : {Y : Type 0} (names : List (String Y)) → 256 < length names → AreReadPrincipals (map string_bytes names) → ⊥
too_many names many read = omega (arith, many, read.few, length-map names string_bytes)

unmapped : {Y : Type 0} (P : List ℕ → Type 0) (names : List (String Y)) → All P (map string_bytes names) → All (λ n. P (string_bytes n)) names
unmapped P [] all = All-nil (λ n. P (string_bytes n))
unmapped P (n ∷ names) all = All-cons (λ m. P (string_bytes m)) n names (All-head P (string_bytes n) (map string_bytes names) all) (unmapped P names (All-tail P (string_bytes n) (map string_bytes names) all))

pub few_read : {Y : Type 0} (names : List (String Y)) (r : Bool) → length names ≤ 256 → (IsTrue r ↔ All (λ n. IsWithout 0 (string_bytes n)) names) → IsTrue r ↔ AreReadPrincipals (map string_bytes names)
few_read names r few judged = (
  λ yes. record { few = omega (arith, few, length-map names string_bytes); no_zero = All-map (IsWithout 0) string_bytes names (judged.0 yes) },
  λ are. judged.1 (unmapped (IsWithout 0) names are.no_zero),
)
