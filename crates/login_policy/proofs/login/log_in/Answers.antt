use Rattle.std.proofs.lemmas.Result.{err_from_is_err_and}
use Rattle.login_policy.specs.Logins.{login_of}
use Rattle.openssh_limits.specs.Padding.{padding}
use Rattle.login_policy.proofs.Pendings.{decided, memory_for, pends, refused_last, refused_unasked}
use Rattle.login_policy.proofs.login.log_in.Goals as goal

pub returns-in_err-held-clause-exactly : goal.returns-in_err-held-clause-exactly
returns-in_err-held-clause-exactly g c =
    let p = err_from_is_err_and c.from_residual.result c.from_residual.ensures.1 in
    rw (p.1, p.2) (λ other is. c.in_err-held.ensures.exactly other (pends (login_of c.args.login.now (padding (g.V.RawVerifier.accepts c.args.verifier.now)) (g.R.Revocations.revokes c.args.revocations.now)) is))

pub returns-in_err-held-clause-refused : goal.returns-in_err-held-clause-refused
returns-in_err-held-clause-refused g c =
    let p = err_from_is_err_and c.from_residual.result c.from_residual.ensures.1 in
    rw (p.1, p.2) (λ other. refused_unasked (login_of c.args.login.now (padding (g.V.RawVerifier.accepts c.args.verifier.now)) (g.R.Revocations.revokes c.args.revocations.now)) _ (c.in_err-held.ensures.refused other))

pub returns-clause-exactly : goal.returns-clause-exactly
returns-clause-exactly g c = decided c.refused_or_wanted.ensures c.one_certificate.ensures (login_of c.args.login.now (padding (g.V.RawVerifier.accepts c.args.verifier.now)) (g.R.Revocations.revokes c.args.revocations.now)) c.in_ok-held.held c.in_ok-held.ensures.exactly c.decide_by.result c.decide_by.ensures

pub returns-clause-refused : goal.returns-clause-refused
returns-clause-refused g c = refused_last c.refused_or_wanted.ensures c.one_certificate.ensures (login_of c.args.login.now (padding (g.V.RawVerifier.accepts c.args.verifier.now)) (g.R.Revocations.revokes c.args.revocations.now)) c.in_ok-held.held c.in_ok-held.ensures.exactly c.decide_by.result c.decide_by.ensures

pub returns-clause-memory : goal.returns-clause-memory
returns-clause-memory g c = memory_for c.refused_or_wanted.ensures c.one_certificate.ensures (login_of c.args.login.now (padding (g.V.RawVerifier.accepts c.args.verifier.now)) (g.R.Revocations.revokes c.args.revocations.now)) c.in_ok-held.held c.in_ok-held.ensures.exactly c.decide_by.result
