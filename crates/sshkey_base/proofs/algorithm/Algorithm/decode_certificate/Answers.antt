use Rattle.sshkey_model.proofs.CertificateNameReaders.{certificate_algorithm_reads}
use Rattle.sshkey_model.proofs.Grammars.{grammar}
use Rattle.sshkey_base.specs.Causes.{cause}
use Rattle.sshkey_base.specs.Names.{algorithm_of}
use Rattle.sshkey_base.proofs.Accepted.{accepts_front}
use Rattle.sshkey_base.proofs.algorithm.Algorithm.decode_certificate.Goals as goal

pub returns-clause-accepts : goal.returns-clause-accepts
returns-clause-accepts g c = accepts_front (grammar certificate_algorithm_reads) algorithm_of cause _ _ _ c.read_certificate_type.ensures.gives
