use Rattle.std.proofs.Common.{inr, rules}
use Rattle.std.proofs.lemmas.Result.{err_from_is_err_and}
use Rattle.sshkey_base.proofs.Writing.{after_nothing, vector_refused}
use Rattle.sshkey_base.proofs.encode.encode_vec.Goals as goal

pub returns-in_err-encode : goal.returns-in_err-encode
returns-in_err-encode g c =
    let p = err_from_is_err_and c.from_residual-in_err-encode.result c.from_residual-in_err-encode.ensures.1 in
    rw (p.1, p.2) (inr (vector_refused _ _ _ _ c.in_ok-len.ensures.measures.0 c.in_err-encode.ensures))

pub returns : goal.returns
returns g c = (c.in_ok-encode.ensures.0, after_nothing _ _ _ (search rules) c.in_ok-encode.ensures.1)
