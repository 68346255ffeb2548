use Rattle.std.proofs.Common.{sym, ap, ◌∙◌, not, cond, Bool, arith}
use Rattle.sshkey_entries.proofs.OptionItems.{inside_first, inside_more}
use Rattle.sshkey_authorized_keys.proofs.OptionEnds.{none_more, ends_there, no_end}
use Rattle.sshkey_authorized_keys.proofs.openssh.options_end.Goals as goal
use Rattle.sshkey_authorized_keys.proofs.openssh.options_end.Goals.{then-is_plain_quote, else-is_plain_quote}

pub loop-index-init : goal.loop-index-init
loop-index-init c = record { inside = sym (inside_first c.args.text.now); none = λ i l. absurd (omega (arith, l)) }

pub loop-index-preserved : goal.loop-index-preserved
loop-index-preserved c =
    let more = inside_more c.args.text.now c.loop-index.index ∙ (λ j. cond (sym c.is_plain_quote.ensures j) (not (sym c.loop-index.invariant.inside j)) (sym c.loop-index.invariant.inside j)) in
    record {
      inside = elim c.if-is_plain_quote.branch [
        | then-is_plain_quote w ↦ w.inside-is ∙ sym (more ∙ ap (λ (b : Bool). cond b (not c.loop-index.inside) c.loop-index.inside) w.if-is_plain_quote.true)
        | else-is_plain_quote w ↦ w.inside-is ∙ sym (more ∙ ap (λ (b : Bool). cond b (not c.loop-index.inside) c.loop-index.inside) w.if-is_plain_quote.false)
      ];
      none = none_more c.args.text.now c.loop-index.index c.loop-index.inside c.loop-index.invariant.inside c.loop-index.invariant.none
          (λ here. cc (sym c.if-ends_here.false ∙ c.ends_here.ensures.1 here));
    }

pub returns-then-ends_here : goal.returns-then-ends_here
returns-then-ends_here c = ends_there c.args.text.now c.loop-index.index c.loop-index.inside (omega (arith, c.loop-index-test.true)) c.loop-index.invariant.inside c.loop-index.invariant.none (c.ends_here.ensures.0 c.if-ends_here.true)

pub returns : goal.returns
returns c = no_end c.args.text.now c.loop-index.index (omega (arith, c.loop-index-test.false)) c.loop-index.invariant.none
