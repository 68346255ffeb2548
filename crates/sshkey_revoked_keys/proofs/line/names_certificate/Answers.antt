use Rattle.sshkey_model.specs.CertificateNames.{certified_from}
use Rattle.sshkey_revoked_keys.proofs.NamedWords.{name_judged}
use Rattle.sshkey_revoked_keys.proofs.line.names_certificate.Goals as goal

pub returns : goal.returns
returns c = name_judged (certified_from c.args.name.now) c.check_certificate.result c.is_ok.result c.check_certificate.ensures c.is_ok.ensures.value
