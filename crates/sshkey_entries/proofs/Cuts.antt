-- A text cut at each place that a test names.
use Rattle.std.proofs.Common.{◌≡◌, ℕ, zero, suc, ◌<◌, ◌+◌, List, [], ◌∷◌, length, take, drop, map, Bool, true, false, cond, ap, ◌∙◌, refl, arith, slice_index}
use Rattle.std.specs.List.{slice_split, enumerate_from, onto_first}

-- the pieces between the places that pass
pub cuts : (ℕ → Bool) → List ℕ → List (List ℕ)
cuts f [] = [] ∷ []
cuts f (c ∷ t) = cond (f 0) ([] ∷ cuts (λ k. f (suc k)) t) (onto_first c (cuts (λ k. f (suc k)) t))

pub cuts_same : (f g : ℕ → Bool) (t : List ℕ) → ((k : ℕ) → k < length t → f k ≡ g k) → cuts f t ≡ cuts g t
unfolding cuts
cuts_same f g [] h = refl
cuts_same f g (c ∷ t) h =
    let rest = cuts_same (λ k. f (suc k)) (λ k. g (suc k)) t (λ k l. h (suc k) (omega arith)) in
    λ i. cond (h 0 (omega arith) i) ([] ∷ rest i) (onto_first c (rest i))

map_onto_first : (x : ℕ × ℕ) (parts : List (List (ℕ × ℕ))) → map (map (λ p. p.1)) (onto_first x parts) ≡ onto_first x.1 (map (map (λ p. p.1)) parts)
map_onto_first x [] = refl
map_onto_first x (part ∷ parts) = refl

one_more : (b : Bool) (x : ℕ × ℕ) (parts : List (List (ℕ × ℕ))) (more : List (List ℕ)) → map (map (λ p. p.1)) parts ≡ more
    → map (map (λ p. p.1)) (cond b ([] ∷ parts) (onto_first x parts)) ≡ cond b ([] ∷ more) (onto_first x.1 more)
one_more true x parts more e = ap (λ (l : List (List ℕ)). [] ∷ l) e
one_more false x parts more e = map_onto_first x parts ∙ ap (onto_first x.1) e

-- the same, where the test is of a place and the character there
pub pieces_cuts : (p : ℕ × ℕ → Bool) (m : ℕ) (t : List ℕ) → map (map (λ x. x.1)) (slice_split p (enumerate_from m t)) ≡ cuts (λ k. p (m + k, slice_index t k)) t
unfolding cuts
pieces_cuts p m [] = refl
pieces_cuts p m (c ∷ t) =
    let zero_more : m ≡ m + 0 = omega arith in
    let rest : cuts (λ k. p (m + 1 + k, slice_index t k)) t ≡ cuts (λ k. p (m + suc k, slice_index (c ∷ t) (suc k))) t
    = cuts_same _ _ t (λ k l. let e : m + 1 + k ≡ m + suc k = omega arith in ap (λ (n : ℕ). p (n, slice_index t k)) e) in
    one_more (p (m, c)) (m, c) _ _ (pieces_cuts p (m + 1) t) ∙ (λ i. cond (p (zero_more i, c)) ([] ∷ rest i) (onto_first c (rest i)))

pub cuts_none : (f : ℕ → Bool) (t : List ℕ) → ((k : ℕ) → k < length t → f k ≡ false) → cuts f t ≡ t ∷ []
unfolding cuts
cuts_none f [] h = refl
cuts_none f (c ∷ t) h =
    let rest = cuts_none (λ k. f (suc k)) t (λ k l. h (suc k) (omega arith)) in
    λ i. cond (h 0 (omega arith) i) ([] ∷ rest i) (onto_first c (rest i))

-- up to the first place that passes, and after it
pub cuts_first : (f : ℕ → Bool) (i : ℕ) (t : List ℕ) → i < length t → f i ≡ true → ((k : ℕ) → k < i → f k ≡ false) → cuts f t ≡ take i t ∷ cuts (λ k. f (i + 1 + k)) (drop (i + 1) t)
unfolding cuts
cuts_first f i [] l passes none = absurd (omega arith)
cuts_first f zero (c ∷ t) l passes none =
    let rest = cuts_same (λ k. f (suc k)) (λ k. f (0 + 1 + k)) t (λ k _. let e : suc k ≡ 0 + 1 + k = omega arith in ap f e) in
    λ j. cond (passes j) ([] ∷ rest j) (onto_first c (rest j))
cuts_first f (suc i) (c ∷ t) l passes none =
    let rest = cuts_first (λ k. f (suc k)) i t (omega arith) passes (λ k m. none (suc k) (omega arith)) in
    let place : drop (i + 1) t ≡ drop (suc i + 1) (c ∷ t) = let e : suc (i + 1) ≡ suc i + 1 = omega arith in ap (λ (n : ℕ). drop n (c ∷ t)) e in
    let same = cuts_same (λ k. f (suc (i + 1 + k))) (λ k. f (suc i + 1 + k)) (drop (i + 1) t) (λ k _. let e : suc (i + 1 + k) ≡ suc i + 1 + k = omega arith in ap f e) in
    (λ j. cond (none 0 (omega arith) j) ([] ∷ cuts (λ k. f (suc k)) t) (onto_first c (rest j)))
    ∙ (λ j. take (suc i) (c ∷ t) ∷ same j) ∙ ap (λ (u : List ℕ). take (suc i) (c ∷ t) ∷ cuts (λ k. f (suc i + 1 + k)) u) place

some_onto : (b : Bool) (c : ℕ) (parts : List (List ℕ)) → 0 < length (cond b ([] ∷ parts) (onto_first c parts))
some_onto true c parts = omega arith
some_onto false c [] = omega arith
some_onto false c (part ∷ parts) = omega arith

pub some_cuts : (f : ℕ → Bool) (t : List ℕ) → 0 < length (cuts f t)
unfolding cuts
some_cuts f [] = omega arith
some_cuts f (c ∷ t) = some_onto (f 0) c (cuts (λ k. f (suc k)) t)
