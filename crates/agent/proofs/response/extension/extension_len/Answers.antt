use Rattle.std.proofs.lemmas.Result.{err_from_is_err_and}
use Rattle.agent.proofs.Frames.{first_misfit, list_measured, second_past}
use Rattle.agent.proofs.response.extension.extension_len.Goals as goal

pub returns-in_err-rest : goal.returns-in_err-rest
returns-in_err-rest c =
    let p = err_from_is_err_and c.from_residual.result c.from_residual.ensures.1 in
    let m = c.in_err-rest.ensures in
    rw (p.1, p.2) (second_past _ _ (second_past _ _ m.0), m.1)

pub returns-in_err-encoded_len : goal.returns-in_err-encoded_len
returns-in_err-encoded_len c =
    let p = err_from_is_err_and c.from_residual-in_err-encoded_len.result c.from_residual-in_err-encoded_len.ensures.1 in
    let m = c.in_err-encoded_len.ensures.measures in
    rw (p.1, p.2) (first_misfit _ _ _ m.0, m.1)

pub returns : goal.returns
returns c = list_measured 29 _ _ _ _ _ c.in_ok-encoded_len.ensures.measures c.in_ok-rest.ensures c.u32_of.ensures
