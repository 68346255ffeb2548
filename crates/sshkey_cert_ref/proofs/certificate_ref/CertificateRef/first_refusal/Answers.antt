use Rattle.std.proofs.Common.{inl}
use Rattle.std.proofs.lemmas.Result.{err_from_is_err_and}
use Rattle.sshkey_cert_ref.specs.CertificateRef.{certificate_of, choices_of}
use Rattle.sshkey_cert_ref.proofs.Answers.{unplain}
use Rattle.sshkey_cert_ref.proofs.certificate_ref.CertificateRef.first_refusal.Goals as goal

pub returns-in_err-authority-clause-asks : goal.returns-in_err-authority-clause-asks
returns-in_err-authority-clause-asks g c =
    let p = err_from_is_err_and c.from_residual-in_err-authority.result c.from_residual-in_err-authority.ensures.1 in
    rw p.1 (inl (unplain (certificate_of c.args.self.now).signed (choices_of c.args.self.now) c.in_err-authority.ensures.asks))
