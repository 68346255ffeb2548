use Rattle.std.proofs.Common.{true, get_or, refl, ap, ◌∙◌, arith}
use Rattle.std.proofs.Output.{has_written_styled_nil, has_written_styled_append, has_written_styled_of_eq}
use Rattle.sshkey_base.proofs.HexDigits.{one_more, encode_none}
use Rattle.sshkey_base.proofs.hexadecimal.write_digits.Goals as goal

pub loop-byte-init : goal.loop-byte-init
loop-byte-init g c = λ flush. has_written_styled_of_eq _ _ _ _ _ (encode_none _) (has_written_styled_nil _ _ flush)

pub loop-byte-preserved : goal.loop-byte-preserved
loop-byte-preserved g c = λ flush.
    let digits = c.args.digits.now in
    let now = c.loop-byte.invariant flush in
    let high = c.in_ok-write_char.ensures.styled now.flush (refl {a = true}) in
    let low = c.in_ok-write_char-2.ensures.styled high.flush (refl {a = true}) in
    let more = one_more digits c.args.bytes.now c.loop-byte.byte-index _ _ c.requires (omega arith)
    (c.from-in-loop-byte.ensures ∙ ap (λ k. get_or digits k 0) c.from.ensures)
    (c.from-in-loop-byte-3.ensures ∙ ap (λ k. get_or digits k 0) c.from-in-loop-byte-2.ensures) in
    has_written_styled_of_eq _ _ _ _ _ more
    (has_written_styled_append _ _ _ _ _ _ now (has_written_styled_append _ _ _ _ _ _ high low))
