use Rattle.std.proofs.Common.{refl}
use Rattle.sshkey_cert_ref.specs.CertificateRef.{certificate_of}
use Rattle.sshkey_cert_ref.proofs.Answers.{allows_is}
use Rattle.sshkey_cert_ref.proofs.certificate_ref.CertificateRef.first_refusal_for.Goals as goal

pub returns-clause-first : goal.returns-clause-first
returns-clause-first g c =
    let allowed = allows_is c.allows_principal.result (certificate_of c.args.self.now).signed.valid_principals c.args.principal.now c.allows_principal.ensures in
    rw (c.refusal_with_principal.ensures, c.in_ok-first.ensures.first, allowed) refl
