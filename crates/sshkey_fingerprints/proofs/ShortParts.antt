-- Short parts are written into a slice that has room for them.
use Rattle.std.proofs.Common.{◌≡◌, ℕ, ◌<◌, ◌≤◌, ◌+◌, ◌^◌, [], length, Some, arith, refl, subst, inl, inr}
use Rattle.std.specs.Prelude.{IfSome}
use Rattle.sshkey_model.specs.Parts.{Parts, nothing, bytes, number, box, ◌&◌, flat, BoxesFit}
use Rattle.sshkey_base.specs.declared.encoding.Error.{Error}
use Rattle.sshkey_base.specs.Sink.{Sink, NotWritten}
use Rattle.sshkey_base.proofs.Writing.{length_both, length_box, boxes_both, boxes_box, boxes_bytes, boxes_number}

-- no box is too long where all of it is short
pub boxes_short : (p : Parts) → length (flat p) < 2 ^ 32 → BoxesFit p
unfolding BoxesFit
boxes_short nothing lt = tt
boxes_short (bytes b) lt = boxes_bytes b
boxes_short (number w n) lt = boxes_number w n
boxes_short (box p) lt =
    let inside : length (flat p) < 2 ^ 32 = omega (arith, lt, length_box p) in
    boxes_box p inside (boxes_short p inside)
boxes_short (p & q) lt = boxes_both p q (boxes_short p (omega (arith, lt, length_both p q))) (boxes_short q (omega (arith, lt, length_both p q)))

-- a writer with room for short parts does not refuse them
pub room_taken : (fault : Error → Type 0) (p : Parts) (s t : Sink) (e : Error) (n : ℕ) → s.written ≡ [] → s.limit ≡ Some n → length (flat p) ≤ n → n < 2 ^ 32 → NotWritten fault p s e t → ⊥
unfolding NotWritten
room_taken fault p s t e n none limit le lt (inl long) = long.misfit (boxes_short p (omega (arith, le, lt)))
room_taken fault p s t e n none limit le lt (inr stopped) =
    let full : n < length s.written + length (flat p) = subst (λ o. IfSome o (λ m. m < length s.written + length (flat p))) limit stopped.full in
    let empty : length s.written ≡ 0 = rw none refl in
    omega (arith, full, le, empty)
