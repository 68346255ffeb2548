use Rattle.std.proofs.Common.{arith}
use Rattle.std.proofs.lemmas.Result.{err_from_is_err_and}
use Rattle.ssh_key.proofs.Writing.{misfit, box_first, box_later, boxes_length}
use Rattle.agent.proofs.frame.encode_frame.Goals as goal

pub returns-in_err-message_len : goal.returns-in_err-message_len
returns-in_err-message_len g c =
    let p = err_from_is_err_and c.from_residual.result c.from_residual.ensures.1 in
    rw (p.1, p.2) (misfit g.W.Writer.fault _ _ _ c.in_err-message_len.ensures)

pub returns-in_err-encode : goal.returns-in_err-encode
returns-in_err-encode g c =
    let p = err_from_is_err_and c.from_residual-in_err-encode.result c.from_residual-in_err-encode.ensures.1 in
    rw (p.1, p.2) (box_first g.W.Writer.fault (g.M.Framed.message c.args.message.now) _ _ _ _ c.in_ok-message_len.ensures.1 c.in_err-encode.ensures)

pub returns : goal.returns
returns g c =
    let small = boxes_length (g.M.Framed.message c.args.message.now) c.in_ok-message_len.ensures.0 in
    box_later g.W.Writer.fault (g.M.Framed.message c.args.message.now) _ _ _ _ _ c.in_ok-message_len.ensures.1 (omega (arith, c.in_ok-message_len.ensures.1, small)) c.in_ok-encode.ensures c.encode_message.ensures
