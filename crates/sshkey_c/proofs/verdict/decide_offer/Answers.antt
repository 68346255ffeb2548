use Rattle.std.proofs.Common.{◌≡◌}
use Rattle.std.proofs.lemmas.Result.{err_from_is_err_and}
use Rattle.publickey_login.specs.Sources.{client_known}
use Rattle.publickey_login.specs.Signatures.{BySshd}
use Rattle.sshkey_c.proofs.Verdicts.{decided, kept_out}
use Rattle.sshkey_c.proofs.verdict.decide_offer.Goals as goal

pub returns-in_err-held-clause-verdict : goal.returns-in_err-held-clause-verdict
returns-in_err-held-clause-verdict c =
    let p = err_from_is_err_and c.from_residual.result c.from_residual.ensures.1 in
    let (client, there, pends) = c.in_err-held.ensures.verdict in
    rw (p.1, p.2) (kept_out c.args.login.now BySshd client_known c.args.ticket.now.bytes c.args.answers (λ g granted. granted ≡ g) client c.in_err-held.field-0.0 there pends)

pub returns-clause-verdict : goal.returns-clause-verdict
returns-clause-verdict c =
    let (client, there, pends) = c.in_ok-held.ensures.verdict in
    decided c.args.login.now BySshd client_known c.args.ticket.now.bytes c.args.answers c.one_grant.ensures client there c.in_ok-held.held pends c.decide.result c.decide.ensures.decides
