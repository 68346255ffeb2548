use Rattle.std.proofs.Common.{subst, sym}
use Rattle.login_policy.specs.declared.client.Client.{Client}
use Rattle.openssh_limits.specs.Padding.{padding}
use Rattle.publickey_login.specs.Grants.{IsLogin}
use Rattle.publickey_login.specs.Signatures.{BySshd}
use Rattle.publickey_login.specs.Stops.{IsWhyNoLogin}
use Rattle.publickey_login.specs.Values.{login_of}
use Rattle.publickey_login.proofs.login.may_offer.Goals as goal

pub returns-in-Ok-clause-exactly : goal.returns-in-Ok-clause-exactly
returns-in-Ok-clause-exactly g c = (c.in-Ok.field-0, subst (λ (x : Client). IsLogin (padding (g.V.RawVerifier.accepts c.args.verifier.now)) (login_of c.args.offer.now c.args.trusted.now (record c.args.place.now { client = x }) (g.R.Revocations.revokes c.args.revocations.now) (g.R.Revocations.revokes_key c.args.revocations.now)) BySshd c.in-Ok.field-0) c.client_known.ensures c.in-Ok.ensures.exactly)

pub returns-clause-exactly : goal.returns-clause-exactly
returns-clause-exactly g c = λ other may. c.in-Err.ensures.exactly other may.0 (subst (λ (x : Client). IsLogin (padding (g.V.RawVerifier.accepts c.args.verifier.now)) (login_of c.args.offer.now c.args.trusted.now (record c.args.place.now { client = x }) (g.R.Revocations.revokes c.args.revocations.now) (g.R.Revocations.revokes_key c.args.revocations.now)) BySshd may.0) (sym c.client_known.ensures) may.1)

pub returns-clause-refused : goal.returns-clause-refused
returns-clause-refused g c = λ other. subst (λ (x : Client). IsWhyNoLogin (padding (g.V.RawVerifier.accepts c.args.verifier.now)) (login_of c.args.offer.now c.args.trusted.now (record c.args.place.now { client = x }) (g.R.Revocations.revokes c.args.revocations.now) (g.R.Revocations.revokes_key c.args.revocations.now)) BySshd c.in-Err.refusal) c.client_known.ensures (c.in-Err.ensures.refused other)
