use Rattle.std.proofs.lemmas.Result.{err_from_is_err_and}
use Rattle.sshkey_base.specs.Causes.{encoding_cause}
use Rattle.sshkey_model.specs.Needs.{NeedsString}
use Rattle.sshkey_base.proofs.Stopping.{length_stopped, after_stops}
use Rattle.sshkey_base.proofs.bytes.Bytes.decode_with_spare_capacity.Goals as goal

pub returns-in_err-len-clause-past : goal.returns-in_err-len-clause-past
returns-in_err-len-clause-past g c =
    let p = err_from_is_err_and c.from_residual.result c.from_residual.ensures.1 in
    rw (p.1, p.2) (length_stopped _ NeedsString (g.R.Reader.source c.args.reader.now) c.in_err-len.ensures.gives)

pub returns-clause-past : goal.returns-clause-past
returns-clause-past g c = after_stops encoding_cause c.in_ok-len.len _ _ _ c.in_ok-len.ensures.gives c.bytes_from.ensures.past
