use Rattle.std.proofs.Common.{refl, subst, sym}
use Rattle.std.proofs.lemmas.Result.{err_from_is_err_and}
use Rattle.sshkey_cert.specs.Certificates.{certificate_of}
use Rattle.sshkey_cert.specs.Validity.{IsSigned}
use Rattle.host_keys.specs.Answers.{NotRead}
use Rattle.host_keys.specs.Hosts.{HasTrustedKey, IsTrustedKey, lines_of, login_of}
use Rattle.host_keys.proofs.Certificates.{asks_some, other_key, some_line, unread_other, why_unsigned}
use Rattle.host_keys.proofs.HostKeys.{as_much}
use Rattle.host_keys.proofs.certified_key.check_certified_key.Goals as goal

pub returns-in_err-check_read : goal.returns-in_err-check_read
returns-in_err-check_read g c =
    let p = err_from_is_err_and c.from_residual.result c.from_residual.ensures.1 in
    rw (p.1, p.2) (record {
      exactly = λ other is. let yes = c.in_err-check_read.ensures.exactly.1 is.read in cc yes;
      refused = NotRead _ c.in_err-check_read.ensures.refused;
      asks = λ memory. absurd (unread_other (certificate_of c.args.certificate.now) _ c.in_err-check_read.ensures.refused memory);
    })

pub returns-in_err-check_asked : goal.returns-in_err-check_asked
returns-in_err-check_asked g c =
    let login = login_of c.args.login.now (g.H.HostHasher.hmac c.args.hmac.now) in
    let revokes_key = g.R.Revocations.revokes_key c.args.revocations.now in
    let p = err_from_is_err_and c.from_residual-in_err-check_asked.result c.from_residual-in_err-check_asked.ensures.1 in
    rw (p.1, p.2) (record {
      exactly = λ other is. c.in_err-check_asked.ensures.exactly other (subst (IsTrustedKey login revokes_key) (sym c.public_key.ensures.value) is.key);
      refused = other_key login (g.V.RawVerifier.accepts c.args.verifier.now) revokes_key (certificate_of c.args.certificate.now) (c.in_ok-check_read.ensures.exactly.0 refl) _ _ c.public_key.ensures.value c.in_err-check_asked.ensures.refused;
      asks = c.in_err-check_asked.ensures.asks;
    })

pub returns-clause-exactly : goal.returns-clause-exactly
returns-clause-exactly g c =
    let login = login_of c.args.login.now (g.H.HostHasher.hmac c.args.hmac.now) in
    let accepts = g.V.RawVerifier.accepts c.args.verifier.now in
    let revokes_key = g.R.Revocations.revokes_key c.args.revocations.now in
    let certificate = certificate_of c.args.certificate.now in
    let key = subst (IsTrustedKey login revokes_key) c.public_key.ensures.value c.in_ok-check_asked.ensures.exactly in
    as_much {P = IsSigned accepts certificate} {Q = HasTrustedKey login accepts revokes_key certificate} c.check_signature.result
    (λ signed. record { read = c.in_ok-check_read.ensures.exactly.0 refl; key = key; signed = signed })
    (λ is. is.signed)
    c.check_signature.ensures.exactly

pub returns-clause-refused : goal.returns-clause-refused
returns-clause-refused g c =
    let login = login_of c.args.login.now (g.H.HostHasher.hmac c.args.hmac.now) in
    let accepts = g.V.RawVerifier.accepts c.args.verifier.now in
    let revokes_key = g.R.Revocations.revokes_key c.args.revocations.now in
    let key = subst (IsTrustedKey login revokes_key) c.public_key.ensures.value c.in_ok-check_asked.ensures.exactly in
    why_unsigned login accepts revokes_key (certificate_of c.args.certificate.now) (c.in_ok-check_read.ensures.exactly.0 refl) key c.check_signature.result c.check_signature.ensures.refused c.check_signature.ensures.exactly

pub returns-clause-asks : goal.returns-clause-asks
returns-clause-asks g c =
    let login = login_of c.args.login.now (g.H.HostHasher.hmac c.args.hmac.now) in
    let lines = lines_of c.args.login.now.texts.now in
    asks_some (g.R.Revocations.revokes_none c.args.revocations.now) lines c.check_signature.result (some_line login.hmac login.host login.port _ lines c.in_ok-check_asked.ensures.exactly.listed)
