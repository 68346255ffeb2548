use Rattle.std.proofs.lemmas.Result.{err_from_is_err_and}
use Rattle.sshkey_cert.specs.Certificates.{certificate_of, comment_of}
use Rattle.sshkey_tool.proofs.Outcomes.{refusal, shows_certificate}
use Rattle.sshkey_tool.proofs.shown.shown_of_certificate_line.Goals as goal

pub returns-in_err-certificate : goal.returns-in_err-certificate
returns-in_err-certificate c = let p = err_from_is_err_and c.from_residual.result c.from_residual.ensures.1 in rw (p.1, p.2) (refusal _ c.in_err-certificate.ensures.reads)

pub returns : goal.returns
returns c = shows_certificate _ _ (comment_of c.in_ok-certificate.certificate) (certificate_of c.in_ok-certificate.certificate) c.shown_of_certificate.result c.in_ok-certificate.ensures.reads c.shown_of_certificate.ensures
