-- Two parts, written one after the other.
use Rattle.std.proofs.Common.{◌≡◌, refl, ℕ, ◌≤◌, List, ◌++◌, length, take, drop, append-nil, replicate, ◌+◌, sym, ap, arith, ◌∙◌}
use Rattle.std.proofs.lemmas.List.{take-append-drop, length-append, drop_at, drop-drop, take_at}
use Rattle.std.proofs.lemmas.Slice.{take-put_mid, drop-put_mid}
use borrow.Rule.Slice.PartMut.{put_mid}

put_after : (a z b : List ℕ) (n m : ℕ) → length a ≡ n → length b ≡ m → m ≤ length z → put_mid n m (a ++ z) b ≡ (a ++ b) ++ drop m z
put_after a z b n m a-len b-len le =
    let all : List ℕ = put_mid n m (a ++ z) b in
    let within : n ≤ length (a ++ z) = omega (arith, length-append a z) in
    let front : take (n + m) all ≡ a ++ b = take-put_mid n m (a ++ z) b (n + m) (omega arith) within ∙ ap (λ (w : List ℕ). w ++ b) (take_at a z n a-len) in
    let after : drop (n + m) all ≡ drop m z = drop-put_mid n m (a ++ z) b (n + m) (omega arith) within b-len ∙ sym (drop-drop m n (a ++ z)) ∙ ap (drop m) (drop_at a z n a-len) in
    sym (take-append-drop (n + m) all) ∙ rw (front, after) refl

pub flagged_parts : (a t : List ℕ) → length a ≡ 32 → length t ≡ 5 → put_mid 32 5 (a ++ replicate 5 0) t ≡ a ++ t
flagged_parts a t a-len t-len = put_after a (replicate 5 0) t 32 5 a-len t-len (omega arith) ∙ append-nil (a ++ t)

pub signed_parts : (a b : List ℕ) → length a ≡ 37 → length b ≡ 32 → put_mid 37 32 (a ++ replicate 32 0) b ≡ a ++ b
signed_parts a b a-len b-len = put_after a (replicate 32 0) b 37 32 a-len b-len (omega arith) ∙ append-nil (a ++ b)
