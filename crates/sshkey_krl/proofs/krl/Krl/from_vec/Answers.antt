use Rattle.std.proofs.lemmas.Result.{err_from_is_err_and}
use Rattle.sshkey_krl.proofs.krl.Krl.from_vec.Goals as goal

pub returns-in_err-from_bytes-clause-accepts : goal.returns-in_err-from_bytes-clause-accepts
returns-in_err-from_bytes-clause-accepts c =
    let p = err_from_is_err_and c.from_residual.result c.from_residual.ensures.1 in
    rw p.1 (rw c.as_slice.ensures.value at c.in_err-from_bytes.ensures.accepts)
