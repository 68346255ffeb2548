use Rattle.std.proofs.Common.{Ok, inl, map, map-id, ap}
use Rattle.std.proofs.lemmas.Result.{err_from_is_err_and}
use Rattle.ssh_key.specs.base.Causes.{same_cause}
use Rattle.ssh_key.specs.model.Leaves.{string_format}
use Rattle.ssh_key.proofs.After.{both_reads, both_refused_first, both_refused_later}
use Rattle.ssh_key.proofs.Lawful.{string_lawful}
use Rattle.ssh_key.proofs.Mapped.{mapped_reads, mapped_refused}
use Rattle.ssh_key.proofs.Places.{later_then}
use Rattle.ssh_key.proofs.Steps.{asks_later}
use Rattle.ssh_key.proofs.Stopping.{mapped_stopped, stopped_first, stopped_later}
use Rattle.agent.specs.Responses.{Extension, response_of, strings}
use Rattle.agent.proofs.Lawful.{string_shows}
use Rattle.agent.proofs.Responses.{extension_ends, extension_read}
use Rattle.agent.proofs.response.extension.extension_from.Goals as goal

pub returns-in_err-name-clause-gives : goal.returns-in_err-name-clause-gives
returns-in_err-name-clause-gives g c =
    let p = err_from_is_err_and c.from_residual.result c.from_residual.ensures.1 in
    rw (p.1, p.2) (mapped_refused _ _ _ _ _ _ extension_read (both_refused_first string_format.read strings.read _ _ _ c.in_err-name.ensures.gives))

pub returns-in_err-name-clause-later : goal.returns-in_err-name-clause-later
returns-in_err-name-clause-later g c = c.in_err-name.ensures.later

pub returns-in_err-name-clause-asks : goal.returns-in_err-name-clause-asks
returns-in_err-name-clause-asks g c =
    let p = err_from_is_err_and c.from_residual.result c.from_residual.ensures.1 in
    rw (p.1, p.2) (λ memory sound. inl (c.in_err-name.ensures.asks memory sound))

pub returns-in_err-name-clause-past : goal.returns-in_err-name-clause-past
returns-in_err-name-clause-past g c =
    let p = err_from_is_err_and c.from_residual.result c.from_residual.ensures.1 in
    rw (p.1, p.2) (mapped_stopped _ _ _ _ _ _ _ extension_ends (stopped_first string_format.needs string_format.overruns string_format.delimited_at string_format.read (λ _. strings.needs) (λ _. strings.overruns) (λ _. strings.delimited_at) _ _ c.in_err-name.ensures.past))

pub returns-in_err-contents-clause-gives : goal.returns-in_err-contents-clause-gives
returns-in_err-contents-clause-gives g c =
    let p = err_from_is_err_and c.from_residual-in_err-contents.result c.from_residual-in_err-contents.ensures.1 in
    rw (p.1, p.2, same_cause c.in_err-contents.field-0.0) (mapped_refused _ _ _ _ _ _ extension_read (both_refused_later string_format.read strings.read _ _ _ _ _ c.in_ok-name.ensures.gives c.in_err-contents.ensures.gives))

pub returns-in_err-contents-clause-later : goal.returns-in_err-contents-clause-later
returns-in_err-contents-clause-later g c = later_then _ _ _ c.in_ok-name.ensures.later c.in_err-contents.ensures.later

pub returns-in_err-contents-clause-asks : goal.returns-in_err-contents-clause-asks
returns-in_err-contents-clause-asks g c =
    let p = err_from_is_err_and c.from_residual-in_err-contents.result c.from_residual-in_err-contents.ensures.1 in
    rw (p.1, p.2, same_cause c.in_err-contents.field-0.0) (asks_later _ string_format.needs (λ _. strings.needs) string_format.read _ _ _ _ c.in_ok-name.ensures.gives c.in_err-contents.ensures.asks)

pub returns-in_err-contents-clause-past : goal.returns-in_err-contents-clause-past
returns-in_err-contents-clause-past g c =
    let p = err_from_is_err_and c.from_residual-in_err-contents.result c.from_residual-in_err-contents.ensures.1 in
    rw (p.1, p.2, same_cause c.in_err-contents.field-0.0) (mapped_stopped _ _ _ _ _ _ _ extension_ends (stopped_later string_format.needs string_format.overruns string_format.delimited_at string_format.read (λ _. strings.needs) (λ _. strings.overruns) (λ _. strings.delimited_at) _ _ _ _ _ string_lawful.grammar.same string_lawful.lengths c.in_ok-name.ensures.gives c.in_err-contents.ensures.past))

pub decode_each-requires : goal.decode_each-requires
decode_each-requires g c = string_shows

pub returns-clause-later : goal.returns-clause-later
returns-clause-later g c = later_then _ _ _ c.in_ok-name.ensures.later c.in_ok-contents.ensures.later

pub returns-clause-gives : goal.returns-clause-gives
returns-clause-gives g c =
    mapped_reads _ _ _ _ _ _ _ response_of _ (both_reads string_format.read strings.read _ (λ (v : _). map (λ s. s) v.items) _ _ _ _ _ c.in_ok-name.ensures.gives c.in_ok-contents.ensures.gives) extension_read (ap (λ ss. Ok (Extension c.in_ok-name.field-0.0 ss)) (map-id c.in_ok-contents.contents.items))
