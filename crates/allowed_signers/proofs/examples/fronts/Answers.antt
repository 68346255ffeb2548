use Rattle.std.proofs.Common.{ℕ, List, codes, slice_index, inl, inr, refl, sym, ap, arith}
use Rattle.allowed_signers.proofs.ExampleLemmas.{field, never, without}
use Rattle.allowed_signers.proofs.examples.fronts.Goals as goal

pub returns : goal.returns
returns c = (
  record {
    cut = record { unquoted = without 0x22 (codes "alice,bob") refl; is = inl (record { is = refl; one_word = field (codes "alice,bob") refl; ends = inr refl }) };
    no_return = without 13 (codes "alice,bob") refl;
  },
  record { cut = record { unquoted = without 0x22 (codes "al ice") refl; is = inr refl }; no_return = without 13 (codes "al ice") refl },
  λ h. h.cut.unquoted 2 (omega arith) refl,
  λ h. h.cut.unquoted 0 (omega arith) refl,
  λ h. elim h.cut.is [
    | inl cut ↦ never (sym (cut.one_word 5 (omega arith)))
    | inr quoted ↦ omega (arith, ap (λ (t : List ℕ). slice_index t 0) quoted)
  ],
  λ h. h.no_return 5 (omega arith) refl,
  λ h. h.no_return 5 (omega arith) refl,
)
