-- How many bytes values have that stand one after the other in a box.
use Rattle.std.proofs.Common.{◌≡◌, ◌+◌, ℕ, length, Result, Ok, Err, arith}
use Rattle.sshkey_model.specs.Parts.{Parts, box, ◌&◌, flat, BoxesFit}
use Rattle.sshkey_base.specs.declared.encoding.Error.{Error}
use Rattle.sshkey_base.specs.Sink.{IsLength, MeasuresBoxed}
use Rattle.sshkey_base.proofs.Writing.{boxes_both, boxes_box, boxes_first, boxes_second, boxes_inside, boxes_length, length_both}

-- what stands first does not fit
pub first_misfit : (p q : Parts) → (BoxesFit p → ⊥) → BoxesFit (box (p & q)) → ⊥
first_misfit p q h b = h (boxes_first p q (boxes_inside (p & q) b))

-- what stands second does not fit into a box of its own
pub second_misfit : (p q : Parts) → (BoxesFit (box q) → ⊥) → BoxesFit (box (p & q)) → ⊥
second_misfit p q h b = h (boxes_box q (omega (arith, boxes_length (p & q) b, length_both p q)) (boxes_second p q (boxes_inside (p & q) b)))

-- both fit, and their bytes are added up
pub both_measured : (p q : Parts) (n k : ℕ) (r : Result ℕ Error) → BoxesFit p × (n ≡ length (flat p)) → BoxesFit (box q) × (k ≡ length (flat q)) → IsLength (n + k) r → MeasuresBoxed (p & q) r
both_measured p q n k (Ok m) a b l = (boxes_box (p & q) (omega (arith, l.1, a.1, b.1, length_both p q)) (boxes_both p q a.0 (boxes_inside q b.0)), omega (arith, l.0, a.1, b.1, length_both p q))
both_measured p q n k (Err e) a b l = (λ f. absurd (omega (arith, l.0, a.1, b.1, boxes_length (p & q) f, length_both p q)), l.1)
