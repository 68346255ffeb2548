use Rattle.std.proofs.Common.{refl}
use Rattle.std.proofs.lemmas.Result.{err_from_is_err_and}
use Rattle.sshkey_base.specs.Causes.{cause}
use Rattle.sshkey_model.specs.CertificateNames.{certified_from}
use Rattle.sshkey_model.specs.Names.{Dsa}
use Rattle.sshkey_cert_ref.specs.Certificates.{certified_in}
use Rattle.sshkey_cert_ref.specs.declared.certificate_name.CertificateName.{CertificateName}
use Rattle.sshkey_cert_ref.proofs.Certificates.{are_judged, is_refused, is_known}
use Rattle.sshkey_cert_ref.proofs.certificate_name.checked_name.Goals as goal

pub returns-in_err-check_certificate : goal.returns-in_err-check_certificate
returns-in_err-check_certificate c =
    let p = err_from_is_err_and c.from_residual.result c.from_residual.ensures.1 in
    rw (p.1, p.2) (is_refused {X = CertificateName} (λ n. certified_in n.name.now) cause (certified_from c.args.name.now) _ c.in_err-check_certificate.ensures)

pub invariant_of-result : goal.invariant_of-result
invariant_of-result c = record { form = are_judged cause (certified_from c.args.name.now) c.in_ok-check_certificate.ensures }

pub returns : goal.returns
returns c = is_known Dsa (λ n. certified_in n.name.now) cause (certified_from c.args.name.now) _ refl (are_judged cause (certified_from c.args.name.now) c.in_ok-check_certificate.ensures)
