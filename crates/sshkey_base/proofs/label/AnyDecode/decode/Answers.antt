use Rattle.std.proofs.lemmas.Result.{err_from_is_err_and}
use Rattle.sshkey_base.specs.Causes.{encoding_cause}
use Rattle.sshkey_model.specs.Labels.{label_at}
use Rattle.sshkey_base.proofs.NameStrings.{after_asks}
use Rattle.sshkey_base.proofs.Steps.{after_length}
use Rattle.sshkey_base.proofs.Stopping.{judged_length_stopped, after_judged_stops}
use Rattle.sshkey_base.proofs.label.AnyDecode.decode.Goals as goal

pub returns-clause-gives : goal.returns-clause-gives
unfolding label_at
returns-clause-gives g c = after_length g.T.Label.stands_for encoding_cause g.T.Label.named c.in_ok-len.len _ _ _ _ c.in_ok-len.ensures.gives c.name_from.ensures.gives

pub returns-clause-asks : goal.returns-clause-asks
returns-clause-asks g c = after_asks encoding_cause g.T.Label.needs c.in_ok-len.len _ _ _ c.in_ok-len.ensures.gives c.name_from.ensures.asks

pub returns-in_err-len-clause-past : goal.returns-in_err-len-clause-past
unfolding label_at
returns-in_err-len-clause-past g c =
    let p = err_from_is_err_and c.from_residual.result c.from_residual.ensures.1 in
    rw (p.1, p.2) (judged_length_stopped _ g.T.Label.named g.T.Label.needs (g.R.Reader.source c.args.reader.now) c.in_err-len.ensures.gives)

pub returns-clause-past : goal.returns-clause-past
unfolding label_at
returns-clause-past g c = after_judged_stops encoding_cause g.T.Label.named g.T.Label.needs c.in_ok-len.len _ _ _ c.in_ok-len.ensures.gives c.name_from.ensures.past
