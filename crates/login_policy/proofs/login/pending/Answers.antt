use Rattle.std.proofs.Common.{inl, refl}
use Rattle.std.proofs.lemmas.Result.{err_from_is_err_and}
use Rattle.sshkey_base.proofs.Acceptance.{other_cause}
use Rattle.sshkey_cert.specs.Certificates.{certificate_of}
use Rattle.sshkey_cert.specs.Validity.{fingerprints_of}
use Rattle.login_policy.proofs.Logins.{judging, memory_of, no_login, other_of}
use Rattle.login_policy.proofs.login.pending.Goals as goal

pub returns-in_err-certificate-clause-exactly : goal.returns-in_err-certificate-clause-exactly
returns-in_err-certificate-clause-exactly g c =
    let p = err_from_is_err_and c.from_residual.result c.from_residual.ensures.1 in
    rw p.1 (λ other. no_login _ (c.in_err-certificate.ensures.accepts (other_cause _ (other_of _ p.0 p.2 other).0) refl))

pub returns-in_err-certificate-clause-refused : goal.returns-in_err-certificate-clause-refused
returns-in_err-certificate-clause-refused g c =
    let p = err_from_is_err_and c.from_residual.result c.from_residual.ensures.1 in
    rw p.1 (λ other.
    let is = other_of _ p.0 p.2 other in
    inl (c.in_err-certificate.ensures.accepts (other_cause _ is.0) refl, (_, c.in_err-certificate.ensures.gives.fault (other_cause _ is.0) refl, p.2)))

pub returns-in_err-certificate-clause-memory : goal.returns-in_err-certificate-clause-memory
returns-in_err-certificate-clause-memory g c =
    let p = err_from_is_err_and c.from_residual.result c.from_residual.ensures.1 in
    rw p.1 (λ memory. inl (c.in_err-certificate.ensures.asks (rw (memory_of _ p.0 p.2 memory) refl) refl))

pub returns-clause-memory : goal.returns-clause-memory
returns-clause-memory g c = judging (fingerprints_of c.args.login.now.authorities.now) c.args.login.now.certificate.now (certificate_of c.in_ok-certificate.certificate) c.in_ok-certificate.ensures.accepts.spelled c.pending_of.result c.pending_of.ensures.memory
