use Rattle.std.proofs.Common.{inl}
use Rattle.std.proofs.lemmas.Result.{err_from_is_err_and}
use Rattle.openssh_limits.specs.Padding.{padding}
use Rattle.publickey_login.specs.Values.{login_of, place_seen, signed_of}
use Rattle.publickey_login.proofs.Pendings.{decided, refused}
use Rattle.publickey_login.proofs.login.log_in.Goals as goal

pub returns-in_err-held-clause-exactly : goal.returns-in_err-held-clause-exactly
returns-in_err-held-clause-exactly g c =
    let p = err_from_is_err_and c.from_residual.result c.from_residual.ensures.1 in
    rw (p.1, p.2) (λ other h is. c.in_err-held.ensures.exactly other h is.authority is.client is.pending)

pub returns-in_err-held-clause-refused : goal.returns-in_err-held-clause-refused
returns-in_err-held-clause-refused g c =
    let p = err_from_is_err_and c.from_residual.result c.from_residual.ensures.1 in
    rw (p.1, p.2) (λ other. inl (c.in_err-held.ensures.refused other))

pub returns-clause-exactly : goal.returns-clause-exactly
returns-clause-exactly g c = decided (login_of c.args.offer.now c.args.trusted.now (place_seen c.args.signed.now c.args.place.now) (g.R.Revocations.revokes c.args.revocations.now) (g.R.Revocations.revokes_key c.args.revocations.now)) (signed_of c.args.signed.now) (padding (g.V.RawVerifier.accepts c.args.verifier.now)) c.in_ok-held.held c.in_ok-held.ensures.exactly c.decide_by.result c.decide_by.ensures

pub returns-clause-refused : goal.returns-clause-refused
returns-clause-refused g c = refused (login_of c.args.offer.now c.args.trusted.now (place_seen c.args.signed.now c.args.place.now) (g.R.Revocations.revokes c.args.revocations.now) (g.R.Revocations.revokes_key c.args.revocations.now)) (signed_of c.args.signed.now) (padding (g.V.RawVerifier.accepts c.args.verifier.now)) c.in_ok-held.held c.in_ok-held.ensures.exactly c.decide_by.result c.decide_by.ensures
