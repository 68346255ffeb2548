use Rattle.sshkey_model.specs.Certificates.{normal_certificate}
use Rattle.sshkey_model.specs.Keys.{key_algorithm}
use Rattle.sshkey_model.specs.Parts.{flat}
use Rattle.sshkey_cert.specs.Certificates.{certificate_of}
use Rattle.sshkey_cert.proofs.Lines.{one_line_certified}
use Rattle.sshkey_cert.proofs.certificate.Certificate.is_one_line.Goals as goal

pub returns : goal.returns
returns c =
    let certificate = certificate_of c.args.self.now in
    let blob = flat (normal_certificate certificate) in
    let plain = rw (c.algorithm_name.ensures, c.as_str.ensures) at c.makes_one_line.ensures blob in
    let certified = one_line_certified (key_algorithm certificate.signed.key) blob _ in
    (λ yes. certified.0 (plain.0 yes), λ is. plain.1 (certified.1 is))
