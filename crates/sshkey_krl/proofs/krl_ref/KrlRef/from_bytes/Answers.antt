use Rattle.std.proofs.lemmas.Result.{err_from_is_err_and}
use Rattle.sshkey_base.specs.Causes.{cause}
use Rattle.sshkey_krl.proofs.Krls.{accepted, none_spelled, rejected, spelled}
use Rattle.sshkey_krl.proofs.krl_ref.KrlRef.from_bytes.Goals as goal

pub returns-in_err-check_krl-clause-accepts : goal.returns-in_err-check_krl-clause-accepts
returns-in_err-check_krl-clause-accepts c =
    let p = err_from_is_err_and c.from_residual.result c.from_residual.ensures.1 in
    let f = rejected cause c.args.bytes.now _ c.in_err-check_krl.ensures in
    rw p.1 (none_spelled c.args.bytes.now f.0 f.1)

pub returns-clause-accepts : goal.returns-clause-accepts
returns-clause-accepts c = spelled c.args.bytes.now (accepted cause c.args.bytes.now c.in_ok-check_krl.ensures)
