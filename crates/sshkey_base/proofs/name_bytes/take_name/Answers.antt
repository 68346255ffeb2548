use Rattle.std.proofs.Common.{arith}
use Rattle.std.proofs.lemmas.Result.{err_from_is_err_and}
use Rattle.sshkey_base.proofs.NameStrings.{short_taken, long_passed, passed_refused, bytes_refused}
use Rattle.sshkey_base.proofs.name_bytes.take_name.Goals as goal

pub returns-in_err-read_from-clause-gives : goal.returns-in_err-read_from-clause-gives
returns-in_err-read_from-clause-gives g c =
    let p = err_from_is_err_and c.from_residual.result c.from_residual.ensures.1 in
    rw (p.1, p.2) (bytes_refused _ _ _ _ (c.in_err-read_from.ensures.plain (omega arith)))

pub returns-then-len-le-MAX_LEN-clause-gives : goal.returns-then-len-le-MAX_LEN-clause-gives
returns-then-len-le-MAX_LEN-clause-gives g c = short_taken _ _ _ _ (omega arith) (c.in_ok-read_from.ensures.plain (omega arith))

pub returns-in_err-pass-clause-gives : goal.returns-in_err-pass-clause-gives
returns-in_err-pass-clause-gives g c =
    let p = err_from_is_err_and c.from_residual-in_err-pass.result c.from_residual-in_err-pass.ensures.1 in
    rw (p.1, p.2) (passed_refused _ _ _ _ c.in_err-pass.ensures.gives)

pub returns-clause-gives : goal.returns-clause-gives
returns-clause-gives g c = long_passed c.args.len _ _ _ (omega arith) c.in_ok-pass.ensures.gives
