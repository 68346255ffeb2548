use Rattle.std.proofs.Common.{◌≡◌, ◌≤◌, ◌<◌, ℕ, [], slice_index, bit_xor, subst, sym, ap, arith, refl, ◌∙◌, inl, inr}
use Rattle.std.proofs.lemmas.Bool.{cases_lt}
use Rattle.std.proofs.lemmas.List.{get_or_past, get_or-replicate}
use Rattle.std.proofs.lemmas.List.FromFn.{fill_by_all}
use Rattle.std.specs.Int.Bits.{xor_zero_l}
use Rattle.sha1.specs.Sha1.{Holds}
use Rattle.sshkey_known_hosts.specs.Hmac.{masked}
use Rattle.sshkey_known_hosts.proofs.hmac_sha1.begun.Goals as goal

pub loop-place-init : goal.loop-place-init
loop-place-init c = (refl, λ i l. absurd (omega (arith, l)), λ i _ l. get_or-replicate 64 i c.args.mask 0 l)

pub returns : goal.returns
returns c =
    let key = c.args.key.now in
    let block = c.loop-place.block in
    let under = λ (i : ℕ). bit_xor (slice_index key i) c.args.mask in
    let rest : (i : ℕ) → c.loop-place.place ≤ i → i < 64 → slice_index block i ≡ under i
    = λ i past l. c.loop-place.invariant.2 i past l
    ∙ sym (ap (λ (b : ℕ). bit_xor b c.args.mask) (get_or_past key i 0 (omega (arith, c.min-place-end.ensures, c.loop-place-test.false, past, l))) ∙ xor_zero_l c.args.mask) in
    let is : block ≡ masked key c.args.mask
    = fill_by_all under block 64 0 c.loop-place.invariant.0
    (λ i l. elim (cases_lt i c.loop-place.place) [ inl before ↦ c.loop-place.invariant.1 i before | inr past ↦ rest i past l ]) in
    subst (Holds c.update.new.self) is (c.update.ensures [] c.new-hasher.ensures)
