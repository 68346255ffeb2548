use Rattle.std.proofs.Common.{inl, subst, sym, ◌∙◌}
use Rattle.std.proofs.lemmas.Result.{err_from_is_err_and}
use Rattle.agent.proofs.Signing.{agent_failed, answer_read}
use Rattle.agent.proofs.agent_key.AgentKey.ask.Goals as goal

pub returns-in_err-request : goal.returns-in_err-request
returns-in_err-request g c =
    let p = err_from_is_err_and c.from_residual.result c.from_residual.ensures.1 in
    rw (p.1, p.2) (λ other. inl (c.in_err-request.ensures.refused other))

pub ask-requires : goal.ask-requires
ask-requires g c = subst (g.A.Agent.permits c.args.self.now.agent.now) (sym (c.deref.ensures.value ∙ c.in_ok-request.ensures.bytes)) c.requires

pub returns-in_err-answer : goal.returns-in_err-answer
returns-in_err-answer g c =
    let p = err_from_is_err_and c.from_residual-in_err-answer.result c.from_residual-in_err-answer.ensures.1 in
    rw (p.1, p.2) (λ other. agent_failed _ _ _ _ (c.deref.ensures.value ∙ c.in_ok-request.ensures.bytes) c.in_err-answer.ensures)

pub returns : goal.returns
returns g c = answer_read _ _ _ _ _ c.signature_from.result (c.deref.ensures.value ∙ c.in_ok-request.ensures.bytes) c.in_ok-answer.ensures c.deref-2.ensures.value c.signature_from.ensures
