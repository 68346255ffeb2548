use Rattle.std.proofs.Common.{sym, ap, ◌∙◌, not, inl, inr, arith}
use Rattle.sshkey_authorized_keys.proofs.Dividers.{quoted_first, quoted_other, quoted_same, none_more, divides_not}
use Rattle.sshkey_authorized_keys.proofs.config_opts.first_divider.Goals as goal
use Rattle.sshkey_authorized_keys.proofs.config_opts.first_divider.Goals.{then-byte-eq34, else-byte-eq34}

pub loop-index-init : goal.loop-index-init
loop-index-init c = record { quoted = sym (quoted_first c.args.text.now); none = λ k l. absurd (omega arith) }

pub loop-index-preserved : goal.loop-index-preserved
loop-index-preserved c = record {
  quoted = elim c.if-byte-eq34.branch [
    | then-byte-eq34 w ↦ w.quoted-is ∙ ap not c.loop-index.invariant.quoted ∙ sym (quoted_other c.args.text.now c.loop-index.index c.loop-index-test.true w.if-byte-eq34.true)
    | else-byte-eq34 w ↦ w.quoted-is ∙ c.loop-index.invariant.quoted ∙ sym (quoted_same c.args.text.now c.loop-index.index c.loop-index-test.true w.if-byte-eq34.false)
  ];
  none = none_more c.args.text.now c.loop-index.index c.loop-index.invariant.none
      (divides_not c.args.text.now c.loop-index.index (λ here outside. elim c.else-byte-eq44.either [
        | inl h ↦ cc (sym h.1 ∙ c.loop-index.invariant.quoted ∙ outside)
        | inr other ↦ other here
      ]));
}
