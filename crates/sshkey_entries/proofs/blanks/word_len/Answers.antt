use Rattle.std.proofs.Common.{◌≡◌, ◌-◌, ◌∙◌, ℕ, arith, false, inl, inr, slice_index, subst, sym, true}
use Rattle.std.proofs.lemmas.Bool.{cases_lt}
use Rattle.std.proofs.lemmas.List.Sums.{suffix_len_is}
use Rattle.sshkey_entries.specs.Fields.{is_white}
use Rattle.sshkey_entries.proofs.blanks.word_len.Goals as goal

pub white-init : goal.white-init
white-init c = (omega arith, λ k from less. absurd (omega (arith, from, less)))

pub bounds-field-len : goal.bounds-field-len
bounds-field-len c = omega (arith, c.white.invariant.0, c.white-test.true)

pub white-preserved : goal.white-preserved
white-preserved c = (
  omega (arith, c.white.invariant.0),
  λ k from less. elim (cases_lt k c.white.len) [
    | inl before ↦ let same : c.white.len - 1 ≡ k = omega (arith, from, before) in subst (λ (i : ℕ). is_white (slice_index c.args.field.now i) ≡ true) same (sym c.is_white.ensures ∙ c.if-is_white.true)
    | inr above ↦ c.white.invariant.1 k above less
  ],
)

pub returns-else-is_white-clause-size : goal.returns-else-is_white-clause-size
returns-else-is_white-clause-size c =
    let tail = suffix_len_is is_white c.args.field.now c.white.len 0 c.white.invariant.0 c.white.invariant.1 (λ some. sym c.is_white.ensures ∙ c.if-is_white.false) in
    omega (arith, tail, c.white.invariant.0)

pub returns-else-is_white-clause-bound : goal.returns-else-is_white-clause-bound
returns-else-is_white-clause-bound c = c.white.invariant.0

pub returns-else-is_white-clause-behind : goal.returns-else-is_white-clause-behind
returns-else-is_white-clause-behind c = c.white.invariant.1

pub returns-after-white-clause-size : goal.returns-after-white-clause-size
returns-after-white-clause-size c =
    let tail = suffix_len_is is_white c.args.field.now c.white.len 0 c.white.invariant.0 c.white.invariant.1 (λ some. absurd (omega (arith, some, c.white-test.false))) in
    omega (arith, tail, c.white.invariant.0)

pub returns-after-white-clause-behind : goal.returns-after-white-clause-behind
returns-after-white-clause-behind c = c.white.invariant.1
