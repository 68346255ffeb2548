use Rattle.std.proofs.Common.{◌≡◌, ◌∙◌, ℕ, ap, arith, drop, false, inl, inr, subst, sym, true}
use Rattle.std.proofs.lemmas.Bool.{cases_lt}
use Rattle.std.proofs.lemmas.List.{take_rest}
use Rattle.sshkey_entry_calls.specs.LaterKinds.{begins_with_later_kind}
use Rattle.sshkey_c.proofs.line.raf_names_later_kind.Goals as goal

pub loop-place-init : goal.loop-place-init
loop-place-init c = λ i less. absurd (omega (arith, less))

pub loop-place-preserved : goal.loop-place-preserved
loop-place-preserved c = λ i less.
    let here : begins_with_later_kind (drop c.loop-place.place c.args.bytes.now) ≡ false = ap begins_with_later_kind (sym (take_rest c.args.bytes.now c.loop-place.place)) ∙ sym c.begins_with_later_kind.ensures ∙ c.if-begins_with_later_kind.false in
    elim (cases_lt i c.loop-place.place) [
      | inl before ↦ c.loop-place.invariant i before
      | inr above ↦ let same : c.loop-place.place ≡ i = omega (arith, less, above) in subst (λ (k : ℕ). begins_with_later_kind (drop k c.args.bytes.now) ≡ false) same here
    ]

pub returns-then-begins_with_later_kind-clause-none : goal.returns-then-begins_with_later_kind-clause-none
returns-then-begins_with_later_kind-clause-none c = λ none.
    let here : begins_with_later_kind (drop c.loop-place.place c.args.bytes.now) ≡ true = ap begins_with_later_kind (sym (take_rest c.args.bytes.now c.loop-place.place)) ∙ sym c.begins_with_later_kind.ensures ∙ c.if-begins_with_later_kind.true in
    absurd (none (record { place = c.loop-place.place; within = omega (arith, c.loop-place-test.true); begins = here }))

pub returns-clause-named : goal.returns-clause-named
returns-clause-named c = λ named.
    let none = c.loop-place.invariant named.place (omega (arith, named.within, c.loop-place-test.false)) in
    absurd (cc (sym none ∙ named.begins))
