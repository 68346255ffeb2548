use Rattle.std.proofs.Common.{arith}
use Rattle.std.proofs.lemmas.Result.{err_from_is_err_and}
use Rattle.sshkey_base.proofs.WrittenLists.{len_none, len_more, len_misfit, len_past, len_end}
use Rattle.sshkey_base.proofs.list.each_len.Goals as goal

pub loop-value-init : goal.loop-value-init
loop-value-init g c = len_none _ _

pub returns-in_err-encoded_len : goal.returns-in_err-encoded_len
returns-in_err-encoded_len g c =
    let p = err_from_is_err_and c.from_residual.result c.from_residual.ensures.1 in
    let m = c.in_err-encoded_len.ensures.measures in
    rw (p.1, p.2) (len_misfit _ _ _ _ c.value-item.result (omega arith) c.value-item.is c.loop-value.invariant m.0, m.1)

pub returns-in_err-len : goal.returns-in_err-len
returns-in_err-len g c =
    let p = err_from_is_err_and c.from_residual-in_err-len.result c.from_residual-in_err-len.ensures.1 in
    rw (p.1, p.2) (len_past _ _ _ _ c.value-item.result (omega arith) c.value-item.is c.loop-value.invariant _ c.in_ok-encoded_len.ensures.measures.1 (omega (arith, c.in_err-len.ensures.0)), c.in_err-len.ensures.1)

pub loop-value-preserved : goal.loop-value-preserved
loop-value-preserved g c = len_more _ _ _ _ c.value-item.result (omega arith) c.value-item.is c.loop-value.invariant _ _ c.in_ok-encoded_len.ensures.measures (omega arith) (omega arith)

pub returns : goal.returns
returns g c = len_end _ _ _ _ (omega arith) c.loop-value.invariant
