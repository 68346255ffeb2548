use Rattle.sshkey_model.proofs.Grammars.{one_front}
use Rattle.sshkey_cert.proofs.Certificates.{certificate_grammar}
use Rattle.sshkey_cert.proofs.laws.one_certificate.Goals as goal

pub returns : goal.returns
returns c = one_front certificate_grammar
