use Rattle.sshkey_cert.specs.Certificates.{certificate_of}
use Rattle.sshkey_model.proofs.Refusals.{allowed, allows_it}
use Rattle.sshkey_cert.proofs.certificate.Certificate.allows_principal.Goals as goal

pub returns : goal.returns
returns c = rw (c.is_allowed.ensures, c.valid_principals.ensures) (allowed (certificate_of c.args.self.now).signed.valid_principals c.args.principal.now, allows_it (certificate_of c.args.self.now).signed.valid_principals c.args.principal.now)
