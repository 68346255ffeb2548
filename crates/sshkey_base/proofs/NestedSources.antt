-- What is taken from a part of a reader is taken from the reader.
use Rattle.std.proofs.Common.{◌≡◌, ℕ, ◌+◌, ◌-◌, ◌≤◌, List, ◌++◌, length, take, drop, refl, ap, ◌∙◌, arith}
use Rattle.std.proofs.lemmas.List.{length-append}
use Rattle.std.proofs.Math.Seq.{take-append-add, drop-append-add}
use Rattle.sshkey_base.specs.Source.{Source, Advances, part}

pub part_advances : (name n : ℕ) (s t : Source) (bytes : List ℕ) → length bytes ≤ n → Advances s bytes t → Advances (part name n s) bytes (part name (n - length bytes) t)
part_advances name n s t bytes le a =
    let m = n - length bytes in
    let n_is : n ≡ length bytes + m = omega arith in
    let lengths : length s.left ≡ length bytes + length t.left = ap length a.taken ∙ length-append bytes t.left in
    let front : take n s.left ≡ bytes ++ take m t.left = ap (λ (k : ℕ). take k s.left) n_is ∙ ap (take (length bytes + m)) a.taken ∙ take-append-add bytes t.left m in
    let back : drop n s.left ≡ drop m t.left = ap (λ (k : ℕ). drop k s.left) n_is ∙ ap (drop (length bytes + m)) a.taken ∙ drop-append-add bytes t.left m in
    let lacks : m - length t.left ≡ n - length s.left = omega arith in
    record {
      taken = front;
      missing = lacks;
      outer = rw (back, a.missing, a.outer) refl;
      are = a.are;
    }
