use Rattle.std.proofs.lemmas.Result.{err_from_is_err_and}
use Rattle.sshkey_base.proofs.Accepted.{accepts_whole_by, finish_refused, finish_asks}
use Rattle.sshkey_base.proofs.Steps.{refused_first}
use Rattle.sshkey_base.proofs.decode.decode_whole.Goals as goal

pub returns-in_err-value-clause-gives : goal.returns-in_err-value-clause-gives
returns-in_err-value-clause-gives g c =
    let p = err_from_is_err_and c.from_residual.result c.from_residual.ensures.1 in
    rw (p.1, p.2) (refused_first _ _ _ _ c.in_err-value.ensures.gives)

pub returns-in_err-value-clause-accepts : goal.returns-in_err-value-clause-accepts
returns-in_err-value-clause-accepts g c = accepts_whole_by g.T.Decode.means _ c.lawful.ensures.grammar _ _ (returns-in_err-value-clause-gives g c)

pub returns-in_err-finish-clause-gives : goal.returns-in_err-finish-clause-gives
returns-in_err-finish-clause-gives g c =
    let p = err_from_is_err_and c.from_residual-in_err-finish.result c.from_residual-in_err-finish.ensures.1 in
    rw p.1 (finish_refused g.T.Decode.means g.T.Error.DecodeError.cause g.T.Decode.format.read (g.R.Reader.source c.args.reader) _ _ _ _ c.in_ok-value.ensures.gives c.in_err-finish.ensures (g.met.T.Error.DecodeError.keeps_causes _ p.0 p.2))

pub returns-in_err-finish-clause-accepts : goal.returns-in_err-finish-clause-accepts
returns-in_err-finish-clause-accepts g c = accepts_whole_by g.T.Decode.means g.T.Error.DecodeError.cause c.lawful.ensures.grammar (g.R.Reader.source c.args.reader) _ (returns-in_err-finish-clause-gives g c)

pub returns-in_err-value-clause-asks : goal.returns-in_err-value-clause-asks
returns-in_err-value-clause-asks g c =
    let p = err_from_is_err_and c.from_residual.result c.from_residual.ensures.1 in
    rw (p.1, p.2) c.in_err-value.ensures.asks

pub returns-in_err-finish-clause-asks : goal.returns-in_err-finish-clause-asks
returns-in_err-finish-clause-asks g c =
    let p = err_from_is_err_and c.from_residual-in_err-finish.result c.from_residual-in_err-finish.ensures.1 in
    rw p.1 (λ memory _. finish_asks g.T.Decode.means g.T.Error.DecodeError.cause g.T.Decode.format.read _ _ _ _ c.in_err-finish.ensures (g.met.T.Error.DecodeError.keeps_causes _ p.0 p.2) memory)
