-- How many bytes parts have, one after the other.
use Rattle.std.proofs.Common.{◌≡◌, ℕ, ◌+◌, length, Result, Ok, Err, IsErrAnd, arith, ◌∙◌}
use Rattle.std.proofs.lemmas.List.{length-append}
use Rattle.sshkey_model.specs.Parts.{Parts, ◌&◌, flat, BoxesFit}
use Rattle.sshkey_base.specs.Sink.{Measures}
use Rattle.sshkey_base.specs.declared.encoding.Error.{Error}
use Rattle.sshkey_base.specs.declared.encoding.Error.TheVariants.{Length}

-- They have `n` bytes, and no box is too long.
abbrev pub Has : Parts → ℕ → Type 0
Has p n = BoxesFit p × (n ≡ length (flat p))

pub both_have : (p q : Parts) (m n : ℕ) → Has p m → Has q n → Has (p & q) (m + n)
unfolding flat BoxesFit
both_have p q m n a b = ((a.0, b.0), omega (arith, length-append (flat p) (flat q), a.1, b.1))

pub refused_measure : (p : Parts) (e : Error) (r : Result ℕ Error) → IsErrAnd r (λ x. x ≡ e) → (BoxesFit p → ⊥) → e ≡ Length → Measures p r
refused_measure p e (Ok n) is none long = absurd is
refused_measure p e (Err x) is none long = (none, is ∙ long)
