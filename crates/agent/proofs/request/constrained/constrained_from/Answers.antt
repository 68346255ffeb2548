use Rattle.std.proofs.Common.{inl, map, refl}
use Rattle.std.proofs.lemmas.Result.{err_from_is_err_and}
use Rattle.ssh_key.proofs.After.{both_reads, both_refused_first, both_refused_later}
use Rattle.ssh_key.proofs.Mapped.{mapped_reads, mapped_refused}
use Rattle.ssh_key.proofs.Places.{later_then}
use Rattle.ssh_key.proofs.Steps.{asks_later}
use Rattle.ssh_key.proofs.Stopping.{mapped_stopped, stopped_first, stopped_later}
use Rattle.agent.specs.Records.{constraint_of, constraints, addition_format, addition_of}
use Rattle.agent.specs.Requests.{request_of}
use Rattle.agent.proofs.Lawful.{addition_lawful, has_bytes}
use Rattle.agent.proofs.Requests.{constrained_ends, constrained_read}
use Rattle.agent.proofs.request.constrained.constrained_from.Goals as goal

pub returns-in_err-addition-clause-gives : goal.returns-in_err-addition-clause-gives
returns-in_err-addition-clause-gives g c =
    let p = err_from_is_err_and c.from_residual.result c.from_residual.ensures.1 in
    rw (p.1, p.2) (mapped_refused _ _ _ _ _ _ constrained_read (both_refused_first addition_format.read constraints.read _ _ _ c.in_err-addition.ensures.gives))

pub returns-in_err-addition-clause-later : goal.returns-in_err-addition-clause-later
returns-in_err-addition-clause-later g c = c.in_err-addition.ensures.later

pub returns-in_err-addition-clause-asks : goal.returns-in_err-addition-clause-asks
returns-in_err-addition-clause-asks g c =
    let p = err_from_is_err_and c.from_residual.result c.from_residual.ensures.1 in
    rw (p.1, p.2) (λ memory sound. inl (c.in_err-addition.ensures.asks memory sound))

pub returns-in_err-addition-clause-past : goal.returns-in_err-addition-clause-past
returns-in_err-addition-clause-past g c =
    let p = err_from_is_err_and c.from_residual.result c.from_residual.ensures.1 in
    rw (p.1, p.2) (mapped_stopped _ _ _ _ _ _ _ constrained_ends (stopped_first addition_format.needs addition_format.overruns addition_format.delimited_at addition_format.read (λ _. constraints.needs) (λ _. constraints.overruns) (λ _. constraints.delimited_at) _ _ c.in_err-addition.ensures.past))

pub returns-in_err-constraints-clause-gives : goal.returns-in_err-constraints-clause-gives
returns-in_err-constraints-clause-gives g c =
    let p = err_from_is_err_and c.from_residual-in_err-constraints.result c.from_residual-in_err-constraints.ensures.1 in
    rw (p.1, p.2) (mapped_refused _ _ _ _ _ _ constrained_read (both_refused_later addition_format.read constraints.read addition_of _ _ _ _ c.in_ok-addition.ensures.gives c.in_err-constraints.ensures.gives))

pub returns-in_err-constraints-clause-later : goal.returns-in_err-constraints-clause-later
returns-in_err-constraints-clause-later g c = later_then _ _ _ c.in_ok-addition.ensures.later c.in_err-constraints.ensures.later

pub returns-in_err-constraints-clause-asks : goal.returns-in_err-constraints-clause-asks
returns-in_err-constraints-clause-asks g c =
    let p = err_from_is_err_and c.from_residual-in_err-constraints.result c.from_residual-in_err-constraints.ensures.1 in
    rw (p.1, p.2) (asks_later addition_of addition_format.needs (λ _. constraints.needs) addition_format.read _ _ _ _ c.in_ok-addition.ensures.gives c.in_err-constraints.ensures.asks)

pub returns-in_err-constraints-clause-past : goal.returns-in_err-constraints-clause-past
returns-in_err-constraints-clause-past g c =
    let p = err_from_is_err_and c.from_residual-in_err-constraints.result c.from_residual-in_err-constraints.ensures.1 in
    rw (p.1, p.2) (mapped_stopped _ _ _ _ _ _ _ constrained_ends (stopped_later addition_format.needs addition_format.overruns addition_format.delimited_at addition_format.read (λ _. constraints.needs) (λ _. constraints.overruns) (λ _. constraints.delimited_at) addition_of _ _ _ _ addition_lawful.grammar.same addition_lawful.lengths c.in_ok-addition.ensures.gives c.in_err-constraints.ensures.past))

pub decode_each-requires : goal.decode_each-requires
decode_each-requires g c = has_bytes

pub returns-clause-later : goal.returns-clause-later
returns-clause-later g c = later_then _ _ _ c.in_ok-addition.ensures.later c.in_ok-constraints.ensures.later

pub returns-clause-gives : goal.returns-clause-gives
returns-clause-gives g c =
    mapped_reads _ _ _ _ _ _ _ request_of _ (both_reads addition_format.read constraints.read addition_of (λ (v : _). map constraint_of v.items) _ _ _ _ _ c.in_ok-addition.ensures.gives c.in_ok-constraints.ensures.gives) constrained_read refl
