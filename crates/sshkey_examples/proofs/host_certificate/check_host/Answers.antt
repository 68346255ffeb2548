use Rattle.std.proofs.Common.{[], inl, refl}
use Rattle.std.proofs.lemmas.Result.{err_from_is_err_and}
use Rattle.sshkey_examples.proofs.HostCertificates.{bad_certificate, certified_host, fault_told, needed, never_memory}
use Rattle.sshkey_examples.proofs.host_certificate.check_host.Goals as goal

pub returns-in_err-certificate-clause-exactly : goal.returns-in_err-certificate-clause-exactly
returns-in_err-certificate-clause-exactly g c =
    let p = err_from_is_err_and c.from_residual.result c.from_residual.ensures.1 in
    rw (p.1, p.2) (λ other is. c.in_err-certificate.ensures.accepts is.certificate is.spelled)

pub returns-in_err-certificate-clause-refused : goal.returns-in_err-certificate-clause-refused
returns-in_err-certificate-clause-refused g c =
    let p = err_from_is_err_and c.from_residual.result c.from_residual.ensures.1 in
    rw (p.1, p.2) (λ other. inl (fault_told _ _ _ _ c.in_err-certificate.ensures.keeps))

pub returns-in_err-certificate-clause-memory : goal.returns-in_err-certificate-clause-memory
returns-in_err-certificate-clause-memory g c =
    let p = err_from_is_err_and c.from_residual.result c.from_residual.ensures.1 in
    rw (p.1, p.2) (never_memory _ _ _ (fault_told _ _ _ _ c.in_err-certificate.ensures.keeps))

pub returns-clause-exactly : goal.returns-clause-exactly
returns-clause-exactly g c =
    let read = c.in_ok-certificate.ensures.accepts in
    certified_host _ _ _ _ _ _ read (λ d spelled. (c.one_certificate.ensures _ _ _ _ [] [] spelled read refl).0) c.check_certificate.result c.check_certificate.ensures.exactly

pub returns-clause-refused : goal.returns-clause-refused
returns-clause-refused g c = bad_certificate _ _ _ _ _ _ c.in_ok-certificate.ensures.accepts c.check_certificate.result c.check_certificate.ensures.refused

pub returns-clause-memory : goal.returns-clause-memory
returns-clause-memory g c = needed _ _ c.in_ok-certificate.ensures.accepts c.check_certificate.result c.check_certificate.ensures.memory
