use Rattle.std.proofs.lemmas.Result.{err_from_is_err_and}
use Rattle.agent.proofs.Frames.{boxed_measured, boxed_misfit}
use Rattle.agent.proofs.frame.message_len.Goals as goal

pub returns-in_err-both_len : goal.returns-in_err-both_len
returns-in_err-both_len g c =
    let p = err_from_is_err_and c.from_residual.result c.from_residual.ensures.1 in
    let m = c.in_err-both_len.ensures.measures in
    rw (p.1, p.2) (boxed_misfit _ m.0, m.1)

pub returns : goal.returns
returns g c = boxed_measured _ _ _ c.in_ok-both_len.ensures.measures c.u32_of.ensures
