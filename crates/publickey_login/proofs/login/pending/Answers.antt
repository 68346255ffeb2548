use Rattle.std.proofs.Common.{inl, inr, subst}
use Rattle.std.proofs.lemmas.Result.{err_from_is_err_and}
use Rattle.publickey_login.specs.Stops.{IsWhyNothing}
use Rattle.publickey_login.specs.Values.{login_of, place_seen, signed_of}
use Rattle.publickey_login.specs.declared.place.Place.{Place}
use Rattle.publickey_login.proofs.Pendings.{not_pending}
use Rattle.publickey_login.proofs.login.pending.Goals as goal

pub returns-in_err-grant-clause-exactly : goal.returns-in_err-grant-clause-exactly
returns-in_err-grant-clause-exactly g c =
    let p = err_from_is_err_and c.from_residual.result c.from_residual.ensures.1 in
    rw (p.1, p.2) (λ other. not_pending (login_of c.args.offer.now c.args.trusted.now (place_seen c.args.signed.now c.args.place.now) (g.R.Revocations.revokes c.args.revocations.now) (g.R.Revocations.revokes_key c.args.revocations.now)) (signed_of c.args.signed.now) c.in_err-grant.field-0.0 other (inl (subst (λ (x : Place). IsWhyNothing (login_of c.args.offer.now c.args.trusted.now x (g.R.Revocations.revokes c.args.revocations.now) (g.R.Revocations.revokes_key c.args.revocations.now)) c.in_err-grant.field-0.0) c.place_seen-place.ensures (c.in_err-grant.ensures.exactly other))))

pub returns-in_err-grant-clause-refused : goal.returns-in_err-grant-clause-refused
returns-in_err-grant-clause-refused g c =
    let p = err_from_is_err_and c.from_residual.result c.from_residual.ensures.1 in
    rw (p.1, p.2) (λ other. inl (subst (λ (x : Place). IsWhyNothing (login_of c.args.offer.now c.args.trusted.now x (g.R.Revocations.revokes c.args.revocations.now) (g.R.Revocations.revokes_key c.args.revocations.now)) c.in_err-grant.field-0.0) c.place_seen-place.ensures (c.in_err-grant.ensures.exactly other)))

pub returns-in_err-client-clause-exactly : goal.returns-in_err-client-clause-exactly
returns-in_err-client-clause-exactly g c =
    let grants = rw c.place_seen-place.ensures at c.in_ok-grant.ensures.exactly in
    let why = rw c.required_of-requirements.ensures at c.in_err-client.ensures.refused in
    let p = err_from_is_err_and c.from_residual-in_err-client.result c.from_residual-in_err-client.ensures.1 in
    rw (p.1, p.2) (λ other. not_pending (login_of c.args.offer.now c.args.trusted.now (place_seen c.args.signed.now c.args.place.now) (g.R.Revocations.revokes c.args.revocations.now) (g.R.Revocations.revokes_key c.args.revocations.now)) (signed_of c.args.signed.now) c.in_err-client.field-0.0 other (inr (_, _, _, _, grants, why other)))

pub returns-in_err-client-clause-refused : goal.returns-in_err-client-clause-refused
returns-in_err-client-clause-refused g c =
    let grants = rw c.place_seen-place.ensures at c.in_ok-grant.ensures.exactly in
    let why = rw c.required_of-requirements.ensures at c.in_err-client.ensures.refused in
    let p = err_from_is_err_and c.from_residual-in_err-client.result c.from_residual-in_err-client.ensures.1 in
    rw (p.1, p.2) (λ other. inr (_, _, _, _, grants, why other))
