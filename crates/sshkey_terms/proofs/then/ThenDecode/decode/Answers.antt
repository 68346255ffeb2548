use Rattle.std.proofs.lemmas.Result.{err_from_is_err_and}
use Rattle.sshkey_terms.proofs.Stopping.{stopped_later}
use Rattle.sshkey_terms.proofs.then.ThenDecode.decode.Goals as goal

pub returns-in_err-second-clause-past : goal.returns-in_err-second-clause-past
returns-in_err-second-clause-past g c =
    let first = g.A.Decode.format in
    let second = g.B.Decode.format in
    let p = err_from_is_err_and c.from_residual-in_err-second.result c.from_residual-in_err-second.ensures.1 in
    rw (p.1, p.2) (stopped_later first.needs first.overruns first.delimited_at first.read (λ _. second.needs) (λ _. second.overruns) (λ _. second.delimited_at) g.A.Decode.means _ _ _ _ c.lawful.ensures.grammar.same c.lawful.ensures.lengths c.in_ok-first.ensures.gives c.in_err-second.ensures.past)
