use Rattle.sshkey_cert.proofs.Certificates.{certificate_spelled}
use Rattle.ssh_key.proofs.laws.spelled_certificate.Goals as goal

pub returns : goal.returns
returns c = certificate_spelled
