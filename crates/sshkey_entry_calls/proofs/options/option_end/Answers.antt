use Rattle.std.proofs.Common.{sym, ap, ◌∙◌, not, cond, Bool, slice_index, arith, eqb-true}
use Rattle.sshkey_entries.proofs.OptionItems.{inside_first, inside_more}
use Rattle.sshkey_entry_calls.proofs.OptionPlaces.{none_more}
use Rattle.sshkey_entry_calls.proofs.options.option_end.Goals as goal
use Rattle.sshkey_entry_calls.proofs.options.option_end.Goals.{else-bytes-place-eq44-via-then-bytes-place-eq44+else-not-is_inside, else-bytes-place-eq44-via-else-bytes-place-eq44, then-is_plain_quote, else-is_plain_quote}

pub loop-place-init : goal.loop-place-init
loop-place-init c = record { inside = sym (inside_first c.args.bytes.now); none = λ i l. absurd (omega (arith, l)) }

pub loop-place-preserved : goal.loop-place-preserved
loop-place-preserved c =
    let more = inside_more c.args.bytes.now c.loop-place.place ∙ (λ j. cond (sym c.is_plain_quote.ensures j) (not (sym c.loop-place.invariant.inside j)) (sym c.loop-place.invariant.inside j)) in
    record {
      inside = elim c.if-is_plain_quote.branch [
        | then-is_plain_quote w ↦ w.is_inside-is ∙ sym (more ∙ ap (λ (b : Bool). cond b (not c.loop-place.is_inside) c.loop-place.is_inside) w.if-is_plain_quote.true)
        | else-is_plain_quote w ↦ w.is_inside-is ∙ sym (more ∙ ap (λ (b : Bool). cond b (not c.loop-place.is_inside) c.loop-place.is_inside) w.if-is_plain_quote.false)
      ];
      none = none_more c.args.bytes.now c.loop-place.place c.loop-place.invariant.none (λ comma. elim c.else-bytes-place-eq44.branch [
        | else-bytes-place-eq44-via-then-bytes-place-eq44+else-not-is_inside w ↦ sym c.loop-place.invariant.inside ∙ w.if-not-is_inside.false
        | else-bytes-place-eq44-via-else-bytes-place-eq44 w ↦ absurd (w.if-bytes-place-eq44.false (eqb-true (slice_index c.args.bytes.now c.loop-place.place) 0x2c comma))
      ]);
    }
