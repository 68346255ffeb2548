use Rattle.std.proofs.lemmas.Result.{err_from_is_err_and}
use Rattle.std.proofs.Common.{refl, sym, ◌∙◌}
use Rattle.ssh_key.proofs.Acceptance.{other_cause}
use Rattle.agent.specs.Responses.{Signed}
use Rattle.agent.proofs.Signing.{none_given, some_given}
use Rattle.agent.proofs.agent_key.signature_from.Goals as goal

pub returns-in_err-decode_whole : goal.returns-in_err-decode_whole
returns-in_err-decode_whole c =
    let p = err_from_is_err_and c.from_residual.result c.from_residual.ensures.1 in
    rw (p.1, p.2) (λ other g. c.in_err-decode_whole.ensures.accepts (other_cause _ other) refl (Signed g))

pub returns-in-Some : goal.returns-in-Some
returns-in-Some c = some_given _ _ _ c.in_ok-decode_whole.ensures.accepts.spelled (sym c.into_signature.ensures ∙ c.in-Some.is)

pub returns-in-None : goal.returns-in-None
returns-in-None c = λ other. none_given _ _ c.in_ok-decode_whole.ensures.accepts.spelled (sym c.into_signature.ensures ∙ c.in-None.is)
