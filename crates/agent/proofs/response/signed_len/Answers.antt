use Rattle.std.proofs.lemmas.Result.{err_from_is_err_and}
use Rattle.agent.proofs.Frames.{number_measured, second_misfit}
use Rattle.agent.proofs.response.signed_len.Goals as goal

pub returns-in_err-encoded_len_prefixed : goal.returns-in_err-encoded_len_prefixed
returns-in_err-encoded_len_prefixed c =
    let p = err_from_is_err_and c.from_residual.result c.from_residual.ensures.1 in
    let m = c.in_err-encoded_len_prefixed.ensures.measures in
    rw (p.1, p.2) (second_misfit _ _ m.0, m.1)

pub returns : goal.returns
returns c = number_measured 14 _ _ _ c.in_ok-encoded_len_prefixed.ensures.measures c.u32_of.ensures
