use Rattle.std.proofs.Common.{Ok}
use Rattle.std.proofs.lemmas.Result.{err_from_is_err_and}
use Rattle.sshkey_model.specs.Keys.{Opaque}
use Rattle.sshkey_model.specs.Names.{algorithm_name}
use Rattle.sshkey_model.specs.Reading.{string_at}
use Rattle.sshkey_base.specs.Causes.{same_cause}
use Rattle.sshkey_base.specs.Names.{algorithm_of}
use Rattle.sshkey_model.specs.Needs.{NeedsString}
use Rattle.sshkey_model.specs.Overruns.{OverrunsString}
use Rattle.sshkey_base.proofs.Stopping.{checked_stopped}
use Rattle.sshkey_keys.proofs.key_data.opaque_from.Goals as goal

pub returns-in_err-key-clause-past : goal.returns-in_err-key-clause-past
returns-in_err-key-clause-past g c =
    let p = err_from_is_err_and c.from_residual.result c.from_residual.ensures.1 in
    rw (p.1, p.2, same_cause c.in_err-key.field-0.0) (checked_stopped _ string_at (λ k. Ok (Opaque (algorithm_name (algorithm_of c.args.algorithm)) k)) NeedsString OverrunsString (g.R.Reader.source c.args.reader.now) c.in_err-key.ensures.past)
