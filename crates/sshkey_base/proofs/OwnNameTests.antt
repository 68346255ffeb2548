-- Tests of private-use names.
use Rattle.std.proofs.Common.{◌≡◌, ℕ, zero, suc, ◌+◌, ◌≤◌, List, [], ◌∷◌, get_or, Bool, true, false, nat_lt, refl, sym, arith, add-one}
use Rattle.std.proofs.lemmas.Bool.{lt-ltb, le-ltb, and_right}
use Rattle.std.specs.Bool.{MatchBool}
use Rattle.std.specs.Str.{IsAscii, IsNotAscii}
use Rattle.sshkey_model.specs.Names.{are_ascii}

are_ascii-true : (t : List ℕ) → IsAscii t → are_ascii t ≡ true
are_ascii-true [] ascii = refl
are_ascii-true (c ∷ t) ascii =
    let first : nat_lt c 0x80 ≡ true = lt-ltb c 0x80 (ascii 0) in
    rw first (are_ascii-true t (λ i. rw add-one at (ascii (i + 1))))

are_ascii-false : (t : List ℕ) (i : ℕ) → 128 ≤ get_or t i 0 → are_ascii t ≡ false
are_ascii-false [] i high = absurd (omega arith)
are_ascii-false (c ∷ t) zero high = rw (le-ltb c 0x80 high) refl
are_ascii-false (c ∷ t) (suc i) high = and_right (nat_lt c 0x80) (are_ascii t) (are_ascii-false t i high)

pub are_ascii_is : (t : List ℕ) (b : Bool) → MatchBool b (IsAscii t) (IsNotAscii t) → b ≡ are_ascii t
are_ascii_is t true ascii = sym (are_ascii-true t ascii)
are_ascii_is t false other = sym (are_ascii-false t other.0 other.1)
