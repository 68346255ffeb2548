use Rattle.std.proofs.lemmas.Result.{err_from_is_err_and}
use Rattle.ssh_key.proofs.Writing.{boxes_inside}
use Rattle.agent.proofs.Frames.{number_measured, second_past}
use Rattle.agent.proofs.response.answer_len.Goals as goal

pub returns-in_err-counted_len : goal.returns-in_err-counted_len
returns-in_err-counted_len c =
    let p = err_from_is_err_and c.from_residual.result c.from_residual.ensures.1 in
    let m = c.in_err-counted_len.ensures in
    rw (p.1, p.2) (second_past _ _ m.0, m.1)

pub returns : goal.returns
returns c = let m = c.in_ok-counted_len.ensures in number_measured 12 _ _ _ (boxes_inside _ m.0, m.1) c.u32_of.ensures
