-- What holds of histories of serial numbers.
use Rattle.std.proofs.Common.{ℕ, zero, suc, ◌+◌, ◌<◌, ◌≤◌, List, [], ◌∷◌, ◌++◌, length, slice_index, arith}
use Rattle.authority.specs.Issuance.{IsHistory}

weaker : (a b to : ℕ) (ss : List ℕ) → a ≤ b → IsHistory b ss to → IsHistory a ss to
weaker a b to [] le h = omega (arith, le, h)
weaker a b to (s ∷ ss) le h = (omega (arith, le, h.0), h.1)

pub joined : (from between to : ℕ) (first then : List ℕ) → IsHistory from first between → IsHistory between then to → IsHistory from (first ++ then) to
joined from between to [] then h k = weaker from between to then h k
joined from between to (s ∷ ss) then h k = (h.0, joined (s + 1) between to ss then h.1 k)

above : (from to : ℕ) (ss : List ℕ) → IsHistory from ss to → (j : ℕ) → j < length ss → from ≤ slice_index ss j
above from to [] h j lt = absurd (omega (arith, lt))
above from to (s ∷ ss) h zero lt = h.0
above from to (s ∷ ss) h (suc j) lt = let r = above (s + 1) to ss h.1 j (omega (arith, lt)) in omega (arith, r, h.0)

pub rising : (from to : ℕ) (given : List ℕ) → IsHistory from given to → (i j : ℕ) → i < j → j < length given → slice_index given i < slice_index given j
rising from to [] h i j less lt = absurd (omega (arith, lt))
rising from to (s ∷ ss) h i zero less lt = absurd (omega (arith, less))
rising from to (s ∷ ss) h zero (suc j) less lt = let r = above (s + 1) to ss h.1 j (omega (arith, lt)) in omega (arith, r)
rising from to (s ∷ ss) h (suc i) (suc j) less lt = rising (s + 1) to ss h.1 i j (omega (arith, less)) (omega (arith, lt))

pub positive : (from to : ℕ) (given : List ℕ) → 0 < from → IsHistory from given to → (i : ℕ) → i < length given → 0 < slice_index given i
positive from to given some h i lt = let r = above from to given h i lt in omega (arith, r, some)
