use Rattle.std.proofs.Common.{inl, refl}
use Rattle.sshkey_base.proofs.Acceptance.{other_cause}
use Rattle.publickey_login.specs.Values.{login_of}
use Rattle.publickey_login.proofs.Helds.{by_certificate}
use Rattle.publickey_login.proofs.held.hold.Goals as goal

pub returns-in-Ok-from_bytes : goal.returns-in-Ok-from_bytes
returns-in-Ok-from_bytes g c = record { exactly = by_certificate (login_of c.args.offer.now c.args.trusted.now c.args.place.now (g.R.Revocations.revokes c.args.revocations.now) (g.R.Revocations.revokes_key c.args.revocations.now)) c.hold_certificate.result c.hold_certificate.ensures }

pub returns-in-Err-from_bytes : goal.returns-in-Err-from_bytes
returns-in-Err-from_bytes g c = record {
  exactly = λ other.
      let is = c.unread.ensures other in
      inl (c.in-Err.ensures.accepts, c.in-Err-from_bytes.ensures.accepts (other_cause _ is.0) refl, (c.in-Err.no_key, is.1));
}
