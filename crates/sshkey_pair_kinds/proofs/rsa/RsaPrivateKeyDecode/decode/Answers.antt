use Rattle.sshkey_base.specs.Causes.{cause}
use Rattle.sshkey_model.specs.KeyPairs.{rsa_private_format, rsa_private_from}
use Rattle.sshkey_terms.proofs.Lawful.{checked_read}
use Rattle.sshkey_terms.proofs.Stopping.{mapped_stops}
use Rattle.sshkey_pair_kinds.proofs.rsa.RsaPrivateKeyDecode.decode.Goals as goal

pub returns-in_err-d-clause-past : goal.returns-in_err-d-clause-past
returns-in_err-d-clause-past g c = mapped_stops _ _ _ _ rsa_private_from rsa_private_format.read cause _ _ c.from_residual.ensures.1 (checked_read rsa_private_from _) c.in_err-d.ensures.past
