use Rattle.std.proofs.lemmas.Result.{err_from_is_err_and}
use Rattle.sshkey_public.proofs.public_key.PublicKey.from_bytes.Goals as goal

pub returns-in_err-key_data-clause-accepts : goal.returns-in_err-key_data-clause-accepts
returns-in_err-key_data-clause-accepts c =
    let p = err_from_is_err_and c.from_residual.result c.from_residual.ensures.1 in rw (p.1, p.2) c.in_err-key_data.ensures.accepts

pub returns-in_err-key_data-clause-asks : goal.returns-in_err-key_data-clause-asks
returns-in_err-key_data-clause-asks c =
    let p = err_from_is_err_and c.from_residual.result c.from_residual.ensures.1 in rw (p.1, p.2) c.in_err-key_data.ensures.asks

pub returns-in_err-key_data-clause-gives : goal.returns-in_err-key_data-clause-gives
returns-in_err-key_data-clause-gives c =
    let p = err_from_is_err_and c.from_residual.result c.from_residual.ensures.1 in rw (p.1, p.2) c.in_err-key_data.ensures.gives
