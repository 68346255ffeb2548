use Rattle.std.proofs.lemmas.Result.{err_from_is_err_and}
use Rattle.sshkey_cert.proofs.certificate.Certificate.from_openssh.Goals as goal

pub returns-in_err-certificate-clause-reads : goal.returns-in_err-certificate-clause-reads
returns-in_err-certificate-clause-reads c = let p = err_from_is_err_and c.from_residual.result c.from_residual.ensures.1 in rw (p.1, p.2) c.in_err-certificate.ensures.reads

pub returns-in_err-certificate-clause-asks : goal.returns-in_err-certificate-clause-asks
returns-in_err-certificate-clause-asks c = let p = err_from_is_err_and c.from_residual.result c.from_residual.ensures.1 in rw (p.1, p.2) c.in_err-certificate.ensures.asks

pub returns-in_err-certificate-clause-fault : goal.returns-in_err-certificate-clause-fault
returns-in_err-certificate-clause-fault c = let p = err_from_is_err_and c.from_residual.result c.from_residual.ensures.1 in rw (p.1, p.2) c.in_err-certificate.ensures.fault
