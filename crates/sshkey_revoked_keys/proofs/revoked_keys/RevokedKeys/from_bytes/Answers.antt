use Rattle.std.proofs.lemmas.Result.{err_from_is_err_and}
use Rattle.sshkey_revoked_keys.proofs.revoked_keys.RevokedKeys.from_bytes.Goals as goal

pub returns-in_err-read_lines-clause-text : goal.returns-in_err-read_lines-clause-text
returns-in_err-read_lines-clause-text c = λ _.
    let p = err_from_is_err_and c.from_residual-in_err-read_lines.result c.from_residual-in_err-read_lines.ensures.1 in
    rw (p.1, p.2) (λ other. c.in_err-read_lines.ensures.reads other)
