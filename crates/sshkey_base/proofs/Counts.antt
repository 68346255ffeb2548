-- A count in four bytes is one of its spellings, where it fits.
use Rattle.std.proofs.Common.{◌≡◌, ◌<◌, ◌≤◌, ◌^◌, ℕ, arith, inl, inr, refl}
use Rattle.std.proofs.lemmas.Bool.{cases_lt, lt-ltb, le-ltb}
use Rattle.std.proofs.lemmas.List.{length-replicate}
use Rattle.std.specs.Int.{w32}
use Rattle.sshkey_model.specs.Parts.{Any, number, flat, Fits, BoxesFit}
use Rattle.sshkey_model.specs.Grammar.{normal_is_spelling}
use Rattle.sshkey_model.specs.Leaves.{SpellsNumber32, count}

pub count_is : (n : ℕ) → n < 2 ^ 32 → count n ≡ number w32 n
unfolding count
count_is n lt = rw (lt-ltb n (2 ^ 32) lt) refl

pub count_misfit : (n : ℕ) → 2 ^ 32 ≤ n → BoxesFit (count n) → ⊥
unfolding count BoxesFit flat
count_misfit n ge fits =
    let f = rw (le-ltb n (2 ^ 32) ge) at fits in
    absurd (omega (arith, f.0, length-replicate {A = ℕ} n 0))

pub count_normal : (n : ℕ) → Any n → Fits (count n) → SpellsNumber32 n (flat (count n))
count_normal n is fits =
    elim (cases_lt n (2 ^ 32)) [
      | inl lt ↦ rw (count_is n lt) (normal_is_spelling n is (rw (count_is n lt) at fits))
      | inr ge ↦ absurd (count_misfit n ge fits.boxes)
    ]
