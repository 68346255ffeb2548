use Rattle.std.proofs.lemmas.Result.{err_from_is_err_and}
use Rattle.std.specs.Int.{w8}
use Rattle.ssh_key.specs.base.Causes.{cause, same_cause}
use Rattle.ssh_key.specs.model.Needs.{NoNeed}
use Rattle.ssh_key.specs.model.Overruns.{NoOverrun}
use Rattle.ssh_key.specs.model.Reading.{number_at}
use Rattle.ssh_key.proofs.Lawful.{byte_lawful}
use Rattle.ssh_key.proofs.Judging.{judged, judged_asks}
use Rattle.ssh_key.proofs.Steps.{refused_first}
use Rattle.ssh_key.proofs.Stopping.{checked_stopped, judged_stops}
use Rattle.agent.proofs.kind.decode_kind.Goals as goal

pub returns-in_err-number-clause-gives : goal.returns-in_err-number-clause-gives
returns-in_err-number-clause-gives g c =
    let p = err_from_is_err_and c.from_residual.result c.from_residual.ensures.1 in
    rw (p.1, p.2, same_cause c.in_err-number.field-0.0) (refused_first _ _ _ _ c.in_err-number.ensures.gives)

pub returns-in_err-number-clause-later : goal.returns-in_err-number-clause-later
returns-in_err-number-clause-later g c = c.in_err-number.ensures.later

pub returns-in_err-number-clause-asks : goal.returns-in_err-number-clause-asks
returns-in_err-number-clause-asks g c =
    let p = err_from_is_err_and c.from_residual.result c.from_residual.ensures.1 in
    rw (p.1, p.2, same_cause c.in_err-number.field-0.0) c.in_err-number.ensures.asks

pub returns-in_err-number-clause-past : goal.returns-in_err-number-clause-past
returns-in_err-number-clause-past g c =
    let p = err_from_is_err_and c.from_residual.result c.from_residual.ensures.1 in
    rw (p.1, p.2, same_cause c.in_err-number.field-0.0) (checked_stopped _ (number_at w8) g.K.Kind.kind_from NoNeed NoOverrun (g.R.Reader.source c.args.reader.now) c.in_err-number.ensures.past)

pub returns-clause-gives : goal.returns-clause-gives
returns-clause-gives g c = judged _ _ cause _ g.K.Kind.kind_from _ _ _ _ c.in_ok-number.ensures.gives c.from_number.ensures

pub returns-clause-later : goal.returns-clause-later
returns-clause-later g c = c.in_ok-number.ensures.later

pub returns-clause-asks : goal.returns-clause-asks
returns-clause-asks g c = judged_asks _ _ cause NoNeed _ _ _ _ _ _ c.in_ok-number.ensures.gives c.from_number.ensures

pub returns-clause-past : goal.returns-clause-past
returns-clause-past g c = judged_stops _ _ cause _ g.K.Kind.kind_from _ _ _ _ _ _ byte_lawful.lengths c.in_ok-number.ensures.gives c.from_number.ensures
