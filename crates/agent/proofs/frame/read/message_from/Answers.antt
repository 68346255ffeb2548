use Rattle.std.proofs.Common.{inl}
use Rattle.std.proofs.lemmas.Result.{err_from_is_err_and}
use Rattle.ssh_key.specs.base.Causes.{cause}
use Rattle.ssh_key.proofs.Chosen.{chosen_asks, chosen_gives, chosen_refused, chosen_stopped, chosen_stops}
use Rattle.ssh_key.proofs.Lawful.{byte_lawful, called_chosen, tested_lawful}
use Rattle.ssh_key.proofs.Places.{later_then}
use Rattle.agent.specs.Records.{message, numbered}
use Rattle.agent.proofs.frame.read.message_from.Goals as goal

pub returns-in_err-kind-clause-gives : goal.returns-in_err-kind-clause-gives
returns-in_err-kind-clause-gives g c =
    let p = err_from_is_err_and c.from_residual.result c.from_residual.ensures.1 in
    let kind = numbered g.M.Kind.Kind.kind_from in
    let body = g.M.Framed.body in
    rw (p.1, p.2) (chosen_refused kind.read (λ k. (body k).read) _ _ _ _ (called_chosen kind.read (λ k. (body k).read)) c.in_err-kind.ensures.gives)

pub returns-in_err-kind-clause-later : goal.returns-in_err-kind-clause-later
returns-in_err-kind-clause-later g c = c.in_err-kind.ensures.later

pub returns-in_err-kind-clause-asks : goal.returns-in_err-kind-clause-asks
returns-in_err-kind-clause-asks g c =
    let p = err_from_is_err_and c.from_residual.result c.from_residual.ensures.1 in
    rw (p.1, p.2) (λ memory sound. inl (c.in_err-kind.ensures.asks memory sound))

pub returns-in_err-kind-clause-past : goal.returns-in_err-kind-clause-past
returns-in_err-kind-clause-past g c =
    let p = err_from_is_err_and c.from_residual.result c.from_residual.ensures.1 in
    let kind = numbered g.M.Kind.Kind.kind_from in
    let body = g.M.Framed.body in
    rw (p.1, p.2) (chosen_stopped kind.read (λ k. (body k).delimited_at) kind.needs kind.overruns (λ k. (body k).needs) (λ k. (body k).overruns) _ _ _ (called_chosen kind.read (λ k. (body k).delimited_at)) c.in_err-kind.ensures.past)

pub returns-clause-gives : goal.returns-clause-gives
returns-clause-gives g c =
    let kind = numbered g.M.Kind.Kind.kind_from in
    let body = g.M.Framed.body in
    chosen_gives _ kind.read (λ k. (body k).read) _ _ _ _ cause _ g.M.Framed.means _ c.in_ok-kind.ensures.gives (called_chosen kind.read (λ k. (body k).read)) c.body_from.ensures.gives

pub returns-clause-later : goal.returns-clause-later
returns-clause-later g c = later_then _ _ _ c.in_ok-kind.ensures.later c.body_from.ensures.later

pub returns-clause-asks : goal.returns-clause-asks
returns-clause-asks g c =
    let kind = numbered g.M.Kind.Kind.kind_from in
    let body = g.M.Framed.body in
    chosen_asks _ kind.read (λ k. (body k).read) (message g.M.Kind.Kind.kind_from body).read _ _ _ cause _ kind.needs (λ k. (body k).needs) c.in_ok-kind.ensures.gives c.body_from.ensures.asks

pub returns-clause-past : goal.returns-clause-past
returns-clause-past g c =
    let kind = numbered g.M.Kind.Kind.kind_from in
    let body = g.M.Framed.body in
    chosen_stops _ kind.read (λ k. (body k).delimited_at) _ _ _ _ cause _ kind.needs kind.overruns (λ k. (body k).needs) (λ k. (body k).overruns) c.in_ok-kind.ensures.gives (tested_lawful g.M.Kind.Kind.kind_from byte_lawful).lengths (called_chosen kind.read (λ k. (body k).delimited_at)) c.body_from.ensures.past
