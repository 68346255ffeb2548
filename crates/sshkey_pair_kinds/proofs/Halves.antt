-- Two halves of 32 bytes.
use Rattle.std.proofs.Common.{◌≡◌, ℕ, Bool, true, false, not, bytes_eq, Ok, Err, List, [], ◌++◌, length, take, drop, refl, sym, ap, ◌∙◌, arith, append-nil, take_all}
use Rattle.std.proofs.lemmas.List.{take_at, length-append, length-drop, nil_from_length, take-append-drop}
use Rattle.std.proofs.lemmas.Slice.{take-put_mid, drop-put_mid}
use Rattle.std.proofs.lemmas.Slice.Eq.{bytes_eq-Decides}
use Rattle.sshkey_model.specs.Reading.{Crypto}
use Rattle.sshkey_model.specs.KeyPairs.{private_before}
use borrow.Rule.Slice.PartMut.{put_mid, mid_of}

pub second_half : (b : List ℕ) → length b ≡ 64 → mid_of 32 32 b ≡ drop 32 b
second_half b len = take_all 32 (drop 32 b) (omega (arith, length-drop 32 b))

-- the second half written after the first
pub put_second : (a z b : List ℕ) → length a ≡ 32 → length z ≡ 32 → length b ≡ 32 → put_mid 32 32 (a ++ z) b ≡ a ++ b
put_second a z b a-len z-len b-len =
    let all : List ℕ = put_mid 32 32 (a ++ z) b in
    let long : length (a ++ z) ≡ 64 = omega (arith, length-append a z) in
    let none : drop 64 (a ++ z) ≡ [] = nil_from_length (drop 64 (a ++ z)) (omega (arith, length-drop 64 (a ++ z))) in
    let front : take 64 all ≡ a ++ b = take-put_mid 32 32 (a ++ z) b 64 (omega arith) (omega arith) ∙ ap (λ (w : List ℕ). w ++ b) (take_at a z 32 a-len) in
    let after : drop 64 all ≡ [] = drop-put_mid 32 32 (a ++ z) b 64 (omega arith) (omega arith) b-len ∙ none in
    sym (take-append-drop 64 all) ∙ rw (front, after) (append-nil (a ++ b))

abbrev differ : List ℕ → List ℕ → Bool
differ p b = not (bytes_eq (take 32 (drop 32 b)) p)

pub halves_differ : (p b : List ℕ) (h : Bool) → length b ≡ 64 → h ≡ differ p b → h ≡ true → private_before p b ≡ Err Crypto
halves_differ p b h len e is = go (bytes_eq (drop 32 b) p) refl
  where
    go : (same : Bool) → bytes_eq (drop 32 b) p ≡ same → private_before p b ≡ Err Crypto
    go true s = let no_ : h ≡ false = e ∙ rw (second_half b len, s) refl in absurd cc
    go false s = rw s refl

pub halves_same : (p b : List ℕ) (h : Bool) → length b ≡ 64 → h ≡ differ p b → h ≡ false → (private_before p b ≡ Ok (take 32 b)) × (drop 32 b ≡ p)
halves_same p b h len e is = go (bytes_eq (drop 32 b) p) refl
  where
    go : (same : Bool) → bytes_eq (drop 32 b) p ≡ same → (private_before p b ≡ Ok (take 32 b)) × (drop 32 b ≡ p)
    go true s = (rw s refl, (bytes_eq-Decides (drop 32 b) p).0 s)
    go false s = let no_ : h ≡ true = e ∙ rw (second_half b len, s) refl in absurd cc
