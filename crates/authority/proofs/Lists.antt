-- Tests of lists, and what they decide.
use Rattle.std.proofs.Common.{◌≡◌, ◌≢◌, ◌↔◌, ◌⊎◌, ◌∙◌, sym, ℕ, ◌<◌, ◌≤◌, zero, suc, List, [], ◌∷◌, length, Bool, true, false, not, refl, subst, inl, inr, arith}
use Rattle.std.specs.Prelude.{◌==◌, ◌&&◌, All, Contains, String, map, string_bytes, bytes_eq, ◌||◌}
use Rattle.std.specs.List.{list_any, list_all}
use Rattle.std.proofs.lemmas.Bool.Decides.{nat_tests}
use Rattle.std.proofs.lemmas.List.{get_or_default, length-map}
use Rattle.std.proofs.lemmas.List.Folds.{list_all-map}
use Rattle.std.proofs.lemmas.List.Sums.{AllPass-from_list_all, list_all-from_AllPass}
use Rattle.std.proofs.lemmas.Slice.Eq.{bytes_eq-Decides}
use Rattle.ssh_key.specs.model.Lines.{IsWithout}
use Rattle.authority.specs.Issuance.{IsAllowedName, has_no_zero, is_allowed}

-- a test of each element decides `All`
pub all_passed : {X : Type 0} (p : X → Bool) (P : X → Type 0) → ((x : X) → (p x ≡ true) ↔ P x) → (xs : List X) → (list_all p xs ≡ true) ↔ All P xs
all_passed p P each xs = (λ h k d lt. (each _).0 (AllPass-from_list_all p xs h k d lt), λ all. list_all-from_AllPass p xs (λ k d lt. (each _).1 (all k d lt)))

-- the same of what the elements are mapped to
pub all_mapped : {X Y : Type 0} (p : X → Bool) (P : X → Type 0) (f : Y → X) → ((x : X) → (p x ≡ true) ↔ P x) → (ys : List Y) → (list_all (λ y. p (f y)) ys ≡ true) ↔ All P (map f ys)
all_mapped p P f each ys =
    let same = list_all-map p f ys in
    let both = all_passed p P each (map f ys) in
    (λ h. both.0 (same ∙ h), λ all. sym same ∙ both.1 all)

either : (a b : Bool) → a || b ≡ true → (a ≡ true) ⊎ (b ≡ true)
either true b e = inl refl
either false b e = inr e

second : (a b : Bool) → b ≡ true → a || b ≡ true
second true b e = refl
second false b e = e

-- one of the texts is that text
abbrev has : {Y : Type 0} → List ℕ → List (String Y) → Bool
has name xs = list_any (λ x. bytes_eq name (string_bytes x)) xs

here_or_after : {Y : Type 0} (name : List ℕ) (x : String Y) (xs : List (String Y)) → (has name xs ≡ true → Contains (map string_bytes xs) name) → (bytes_eq name (string_bytes x) ≡ true) ⊎ (has name xs ≡ true) → Contains (map string_bytes (x ∷ xs)) name
here_or_after name x xs rest (inl here) = (0, omega arith, sym ((bytes_eq-Decides _ _).0 here))
here_or_after name x xs rest (inr e) = let (k, lt, is) = rest e in (suc k, omega arith, is)

found : {Y : Type 0} (name : List ℕ) (x : String Y) (xs : List (String Y)) → (Contains (map string_bytes xs) name → has name xs ≡ true) → Contains (map string_bytes (x ∷ xs)) name → has name (x ∷ xs) ≡ true
found name x xs rest (zero, lt, is) = let same : bytes_eq name (string_bytes x) ≡ true = (bytes_eq-Decides _ _).1 (sym is) in rw same refl
found name x xs rest (suc k, lt, is) = second _ _ (rest (k, omega arith, is))

any_listed : {Y : Type 0} (name : List ℕ) (xs : List (String Y)) → (list_any (λ x. bytes_eq name (string_bytes x)) xs ≡ true) ↔ Contains (map string_bytes xs) name
any_listed name [] = (λ e. absurd cc, λ some. absurd (omega (arith, some.1)))
any_listed name (x ∷ xs) = (λ e. here_or_after name x xs (any_listed name xs).0 (either _ _ e), found name x xs (any_listed name xs).1)

pub some_mapped : {X Y : Type 0} (f : X → Y) (xs : List X) → (length xs == 0) ≡ false → map f xs ≢ []
some_mapped f [] some = absurd cc
some_mapped f (x ∷ xs) some = λ none. absurd cc

pub nobody : {X Y : Type 0} (f : X → Y) (xs : List X) → (length xs == 0) ≡ true → map f xs ≢ [] → ⊥
nobody f [] none some = some refl
nobody f (x ∷ xs) none some =
    let zero : length (x ∷ xs) ≡ 0 = grind (arith, nat_tests) in
    absurd (omega (arith, zero))

pub few_mapped : {X Y : Type 0} (f : X → Y) (xs : List X) → length xs ≤ 256 → length (map f xs) ≤ 256
few_mapped f xs few = omega (arith, few, length-map xs f)

pub too_many : {X Y : Type 0} (f : X → Y) (xs : List X) → 256 < length xs → length (map f xs) ≤ 256 → ⊥
too_many f xs many few = omega (arith, many, few, length-map xs f)

-- ---- texts without a zero byte

not_zero : (b : ℕ) → (not (b == 0) ≡ true) ↔ (b ≢ 0)
not_zero b = by_test (b == 0) refl
  where
    by_test : (t : Bool) → (b == 0) ≡ t → (not (b == 0) ≡ true) ↔ (b ≢ 0)
    by_test true e =
        let is : b ≡ 0 = grind (arith, nat_tests) in
        (λ yes. absurd cc, λ some. absurd (some is))
    by_test false e =
        let some : 0 < b = grind (arith, nat_tests) in
        (λ yes is. absurd (omega (arith, some, is)), λ other. rw e refl)

pub without_zero : (text : List ℕ) → (has_no_zero text ≡ true) ↔ IsWithout 0 text
without_zero text =
    let both = all_passed (λ b. not (b == 0)) (λ b. b ≢ 0) not_zero text in
    (λ e i lt. both.0 e i 0 lt, λ is. both.1 (λ k d lt. subst (λ (b : ℕ). b ≢ 0) (get_or_default text k 0 d lt) (is k lt)))

-- ---- what may be asked for

parts : (a b : Bool) → a && b ≡ true → (a ≡ true) × (b ≡ true)
parts true b e = (refl, e)
parts false b e = absurd cc

allowed : {Y : Type 0} (listed : List (String Y)) (name : List ℕ) → (is_allowed listed name ≡ true) ↔ IsAllowedName listed name
allowed listed name = (
  λ e. let (no_zero, is) = parts _ _ e in ((without_zero name).0 no_zero, (any_listed name listed).0 is),
  λ may. rw ((without_zero name).1 may.0, (any_listed name listed).1 may.1) refl,
)

-- what the test of all names says
pub each_allowed : {Y : Type 0} (names : List (String Y)) (listed : List (String Y)) (answer : Bool) → answer ≡ list_all (λ name. is_allowed listed (string_bytes name)) names → (answer ≡ true) ↔ All (IsAllowedName listed) (map string_bytes names)
each_allowed names listed answer is =
    let both = all_mapped (is_allowed listed) (IsAllowedName listed) string_bytes (allowed listed) names in
    (λ e. both.0 (sym is ∙ e), λ all. is ∙ both.1 all)
