use Rattle.std.proofs.Common.{sym, subst, true≢false, ◌∙◌}
use Rattle.std.proofs.lemmas.Result.{err_from_is_err_and}
use Rattle.sshkey_cert.specs.Certificates.{certificate_of}
use Rattle.sshkey_krl.specs.Revocations.{is_certificate_revoked}
use Rattle.host_keys.specs.Answers.{AsksOf}
use Rattle.host_keys.specs.Hosts.{IsBadFor, IsGoodFor, IsSaidOfSigned, IsTrustedCertificate, lines_of, login_of, plain_name}
use Rattle.host_keys.proofs.Certificates.{accepted_as}
use Rattle.host_keys.proofs.HostKeys.{as_much, asks_of, why_bad, judged, why_judged}
use Rattle.host_keys.proofs.certificate.check_by_authority.Goals as goal

pub returns-in_err-answer : goal.returns-in_err-answer
returns-in_err-answer g c =
    let hmac = g.H.HostHasher.hmac c.args.hmac.now in
    let certificate = certificate_of c.args.certificate.now in
    let lines = lines_of c.args.login.now.texts.now in
    let revoked = is_certificate_revoked (g.R.Revocations.revokes c.args.revocations.now) certificate in
    let Bad = IsBadFor (g.V.RawVerifier.accepts c.args.verifier.now) c.args.login.now.unix_timestamp (plain_name c.args.login.now.host.now) certificate in
    let p = err_from_is_err_and c.from_residual.result c.from_residual.ensures.1 in
    rw (p.1, p.2) (record {
      exactly = λ other (is : IsTrustedCertificate (login_of c.args.login.now hmac) (g.V.RawVerifier.accepts c.args.verifier.now) (g.R.Revocations.revokes c.args.revocations.now) certificate).
          judged hmac c.args.login.now.host.now c.args.login.now.port certificate lines revoked _ _ _ _ c.public_key-key.ensures.value c.signature_key-signer.ensures.value c.is_certificate_revoked-revoked.ensures.said c.signed_verdict-said.ensures.answer _ (sym c.answer.ensures ∙ c.in_err-answer.was) other (is.unrevoked, is.trusted_by);
      refused = why_judged hmac c.args.login.now.host.now c.args.login.now.port certificate lines revoked _ _ _ _ c.public_key-key.ensures.value c.signature_key-signer.ensures.value c.is_certificate_revoked-revoked.ensures.said c.signed_verdict-said.ensures.answer _ (sym c.answer.ensures ∙ c.in_err-answer.was) _ Bad;
      asks = subst (AsksOf ⊥ (g.R.Revocations.revokes_none c.args.revocations.now) lines) (sym c.answer.ensures ∙ c.in_err-answer.was) (asks_of ⊥ _ lines _ _ c.is_certificate_revoked-revoked.ensures.asks c.signed_verdict-said.ensures.asks);
    })

pub returns-then-not-are_accepted-clause-exactly : goal.returns-then-not-are_accepted-clause-exactly
returns-then-not-are_accepted-clause-exactly g c = λ other is. true≢false (sym is.accepted ∙ accepted_as c.args.login.now.least_rsa_bits _ _ _ _ c.public_key-key.ensures.value c.signature_key-signer.ensures.value ∙ sym c.are_accepted.ensures ∙ c.if-not-are_accepted.true)

pub returns-then-not-are_accepted-clause-refused : goal.returns-then-not-are_accepted-clause-refused
returns-then-not-are_accepted-clause-refused g c =
    let hmac = g.H.HostHasher.hmac c.args.hmac.now in
    let certificate = certificate_of c.args.certificate.now in
    let lines = lines_of c.args.login.now.texts.now in
    let revoked = is_certificate_revoked (g.R.Revocations.revokes c.args.revocations.now) certificate in
    let trusted = judged hmac c.args.login.now.host.now c.args.login.now.port certificate lines revoked _ _ _ _ c.public_key-key.ensures.value c.signature_key-signer.ensures.value c.is_certificate_revoked-revoked.ensures.said c.signed_verdict-said.ensures.answer _ (sym c.answer.ensures ∙ c.in_ok-answer.was) in
    (trusted.0, trusted.1, accepted_as c.args.login.now.least_rsa_bits _ _ _ _ c.public_key-key.ensures.value c.signature_key-signer.ensures.value ∙ sym c.are_accepted.ensures ∙ c.if-not-are_accepted.true)

pub returns-clause-exactly : goal.returns-clause-exactly
returns-clause-exactly g c =
    let hmac = g.H.HostHasher.hmac c.args.hmac.now in
    let certificate = certificate_of c.args.certificate.now in
    let lines = lines_of c.args.login.now.texts.now in
    let revoked = is_certificate_revoked (g.R.Revocations.revokes c.args.revocations.now) certificate in
    let trusted = judged hmac c.args.login.now.host.now c.args.login.now.port certificate lines revoked _ _ _ _ c.public_key-key.ensures.value c.signature_key-signer.ensures.value c.is_certificate_revoked-revoked.ensures.said c.signed_verdict-said.ensures.answer _ (sym c.answer.ensures ∙ c.in_ok-answer.was) in
    let accepted = accepted_as c.args.login.now.least_rsa_bits _ _ _ _ c.public_key-key.ensures.value c.signature_key-signer.ensures.value ∙ sym c.are_accepted.ensures ∙ c.if-not-are_accepted.false in
    as_much {P = IsGoodFor (g.V.RawVerifier.accepts c.args.verifier.now) c.args.login.now.unix_timestamp (plain_name c.args.login.now.host.now) certificate} {Q = IsTrustedCertificate (login_of c.args.login.now hmac) (g.V.RawVerifier.accepts c.args.verifier.now) (g.R.Revocations.revokes c.args.revocations.now) certificate} c.validate.result
    (λ good. record { trusted_by = trusted.1; unrevoked = trusted.0; accepted = accepted; good = good })
    (λ is. is.good)
    c.validate.ensures.exactly

pub returns-clause-refused : goal.returns-clause-refused
returns-clause-refused g c =
    let hmac = g.H.HostHasher.hmac c.args.hmac.now in
    let certificate = certificate_of c.args.certificate.now in
    let lines = lines_of c.args.login.now.texts.now in
    let revoked = is_certificate_revoked (g.R.Revocations.revokes c.args.revocations.now) certificate in
    let trusted = judged hmac c.args.login.now.host.now c.args.login.now.port certificate lines revoked _ _ _ _ c.public_key-key.ensures.value c.signature_key-signer.ensures.value c.is_certificate_revoked-revoked.ensures.said c.signed_verdict-said.ensures.answer _ (sym c.answer.ensures ∙ c.in_ok-answer.was) in
    let accepted = accepted_as c.args.login.now.least_rsa_bits _ _ _ _ c.public_key-key.ensures.value c.signature_key-signer.ensures.value ∙ sym c.are_accepted.ensures ∙ c.if-not-are_accepted.false in
    why_bad (IsSaidOfSigned hmac c.args.login.now.host.now c.args.login.now.port certificate.signed.key certificate.signed.signature_key lines) revoked _ (g.V.RawVerifier.accepts c.args.verifier.now) c.args.login.now.unix_timestamp (plain_name c.args.login.now.host.now) certificate trusted accepted c.validate.result c.validate.ensures.refused
