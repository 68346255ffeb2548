use Rattle.std.proofs.Common.{inl}
use Rattle.std.proofs.lemmas.Result.{err_from_is_err_and}
use Rattle.ssh_key.specs.base.Causes.{cause}
use Rattle.ssh_key.proofs.Chosen.{chosen_asks, chosen_gives, chosen_refused, chosen_stopped, chosen_stops}
use Rattle.ssh_key.proofs.Lawful.{byte_lawful, called_chosen, tested_lawful}
use Rattle.ssh_key.proofs.Places.{later_then}
use Rattle.agent.specs.Records.{body_format, constraint_format, constraint_of, kind_format, kind_from}
use Rattle.agent.proofs.Constraints.{constraint_chosen}
use Rattle.agent.proofs.constraint.ConstraintDecode.decode.Goals as goal

pub returns-in_err-kind-clause-gives : goal.returns-in_err-kind-clause-gives
returns-in_err-kind-clause-gives g c =
    let p = err_from_is_err_and c.from_residual.result c.from_residual.ensures.1 in
    rw (p.1, p.2) (chosen_refused kind_format.read (λ k. (body_format k).read) _ _ _ constraint_format.read constraint_chosen c.in_err-kind.ensures.gives)

pub returns-in_err-kind-clause-later : goal.returns-in_err-kind-clause-later
returns-in_err-kind-clause-later g c = c.in_err-kind.ensures.later

pub returns-in_err-kind-clause-asks : goal.returns-in_err-kind-clause-asks
returns-in_err-kind-clause-asks g c =
    let p = err_from_is_err_and c.from_residual.result c.from_residual.ensures.1 in
    rw (p.1, p.2) (λ memory sound. inl (c.in_err-kind.ensures.asks memory sound))

pub returns-in_err-kind-clause-past : goal.returns-in_err-kind-clause-past
returns-in_err-kind-clause-past g c =
    let p = err_from_is_err_and c.from_residual.result c.from_residual.ensures.1 in
    rw (p.1, p.2) (chosen_stopped kind_format.read (λ k. (body_format k).delimited_at) kind_format.needs kind_format.overruns (λ k. (body_format k).needs) (λ k. (body_format k).overruns) _ _ _ (called_chosen kind_format.read (λ k. (body_format k).delimited_at)) c.in_err-kind.ensures.past)

pub returns-clause-gives : goal.returns-clause-gives
returns-clause-gives g c = chosen_gives _ kind_format.read (λ k. (body_format k).read) constraint_format.read _ _ _ cause _ constraint_of _ c.in_ok-kind.ensures.gives constraint_chosen c.constraint_from.ensures.gives

pub returns-clause-later : goal.returns-clause-later
returns-clause-later g c = later_then _ _ _ c.in_ok-kind.ensures.later c.constraint_from.ensures.later

pub returns-clause-asks : goal.returns-clause-asks
returns-clause-asks g c = chosen_asks _ kind_format.read (λ k. (body_format k).read) constraint_format.read _ _ _ cause _ kind_format.needs (λ k. (body_format k).needs) c.in_ok-kind.ensures.gives c.constraint_from.ensures.asks

pub returns-clause-past : goal.returns-clause-past
returns-clause-past g c = chosen_stops _ kind_format.read (λ k. (body_format k).delimited_at) _ _ _ _ cause _ kind_format.needs kind_format.overruns (λ k. (body_format k).needs) (λ k. (body_format k).overruns) c.in_ok-kind.ensures.gives (tested_lawful kind_from byte_lawful).lengths (called_chosen kind_format.read (λ k. (body_format k).delimited_at)) c.constraint_from.ensures.past
