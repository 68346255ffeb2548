use Rattle.std.proofs.Common.{Err, Global, Ok, Option, Vec, subst, ℕ}
use Rattle.std.proofs.lemmas.Result.{err_from_is_err_and}
use Rattle.publickey_login.specs.Signatures.{Signed}
use Rattle.publickey_login.specs.Values.{signed_of}
use Rattle.publickey_login.specs.declared.grant.PublickeyGrant.{PublickeyGrant}
use Rattle.sshkey_calls.specs.Rooms.{IsLaidOut}
use Rattle.sshkey_c.specs.declared.grant.GrantParts.{GrantParts}
use Rattle.sshkey_c.specs.Grants.{ArePlaced, grant_bytes}
use Rattle.sshkey_c.specs.Verdicts.{JudgesLogIn}
use Rattle.sshkey_c.proofs.Verdicts.{kept_out, let_in, undecided}
use Rattle.sshkey_c.proofs.verdict.judge.Goals as goal

pub returns-in_err-held-clause-verdict : goal.returns-in_err-held-clause-verdict
returns-in_err-held-clause-verdict c =
    let p = err_from_is_err_and c.from_residual.result c.from_residual.ensures.1 in
    rw (p.1, p.2) (subst (λ (o : Option Signed). JudgesLogIn {Z = Global} c.args.login.now c.args.ticket.now.bytes c.args.answers o (Err c.in_err-held.field-0.0)) c.in-Some.ensures
    (kept_out c.args.login.now (signed_of c.in-Some.signed) (λ x. x) c.args.ticket.now.bytes c.args.answers (λ (g : PublickeyGrant) (laid : Vec ℕ Global × GrantParts). IsLaidOut grant_bytes ArePlaced g laid.0.items laid.1) c.client_of.result c.in_err-held.field-0.0 c.client_of.ensures c.in_err-held.ensures.verdict))

pub returns-in_err-grant-clause-verdict : goal.returns-in_err-grant-clause-verdict
returns-in_err-grant-clause-verdict c =
    let p = err_from_is_err_and c.from_residual-in_err-grant.result c.from_residual-in_err-grant.ensures.1 in
    rw (p.1, p.2) (subst (λ (o : Option Signed). JudgesLogIn {Z = Global} c.args.login.now c.args.ticket.now.bytes c.args.answers o (Err c.in_err-grant.field-0.0)) c.in-Some.ensures
    (undecided c.args.login.now (signed_of c.in-Some.signed) (λ x. x) c.args.ticket.now.bytes c.args.answers c.one_grant.ensures c.client_of.result c.client_of.ensures c.in_ok-held.held c.in_ok-held.ensures.verdict (λ (g : PublickeyGrant) (laid : Vec ℕ Global × GrantParts). IsLaidOut grant_bytes ArePlaced g laid.0.items laid.1) c.in_err-grant.field-0.0 c.in_err-grant.ensures.decides))

pub returns-in-Ok-clause-verdict : goal.returns-in-Ok-clause-verdict
returns-in-Ok-clause-verdict c = subst (λ (o : Option Signed). JudgesLogIn {Z = Global} c.args.login.now c.args.ticket.now.bytes c.args.answers o (Ok c.in-Ok.laid)) c.in-Some.ensures
    (let_in c.args.login.now (signed_of c.in-Some.signed) (λ x. x) c.args.ticket.now.bytes c.args.answers c.one_grant.ensures c.client_of.result c.client_of.ensures c.in_ok-held.held c.in_ok-held.ensures.verdict (λ (g : PublickeyGrant) (laid : Vec ℕ Global × GrantParts). IsLaidOut grant_bytes ArePlaced g laid.0.items laid.1) c.in_ok-grant.grant c.in-Ok.laid c.in_ok-grant.ensures.decides c.in-Ok.ensures)
