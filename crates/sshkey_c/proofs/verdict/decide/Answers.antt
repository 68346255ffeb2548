use Rattle.std.proofs.Common.{rules, sym, ◌≡◌, ◌∙◌}
use Rattle.std.proofs.lemmas.Result.{err_from_is_err_and}
use Rattle.publickey_login.specs.Results.{authority_in, client_in}
use Rattle.sshkey_c.proofs.Asked.{undecided, unlaid}
use Rattle.sshkey_c.proofs.verdict.decide.Goals as goal

pub returns-in_err-questions-clause-decides : goal.returns-in_err-questions-clause-decides
returns-in_err-questions-clause-decides c =
    let p = err_from_is_err_and c.from_residual.result c.from_residual.ensures.1 in
    rw (p.1, p.2) (λ other. unlaid c.args.ticket.now.bytes c.args.answers (authority_in c.args.held) (client_in c.args.held) c.in_err-questions.field-0.0 (c.in_err-questions.ensures.laid other))

pub returns-in-Err-clause-decides : goal.returns-in-Err-clause-decides
returns-in-Err-clause-decides c = λ other.
    let laid = c.in_ok-questions.ensures.laid in
    let same : c.in_ok-questions.questions.ticket.bytes ≡ c.args.ticket.now.bytes = search rules in
    undecided c.args.ticket.now.bytes c.args.answers (authority_in c.args.held) (client_in c.args.held) c.refusal_of.result laid.0 c.answers_in.result c.in-Err.refusal c.answers_in.ensures (laid.1, laid.2) (sym same ∙ laid.3.1.ticket) c.in-Err.ensures c.refusal_of.ensures.refusal
