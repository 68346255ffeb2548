use Rattle.sshkey_base.specs.Causes.{cause}
use Rattle.sshkey_private.specs.PrivateKeys.{private_of}
use Rattle.sshkey_private.proofs.KeyReaders.{formed}
use Rattle.sshkey_private.proofs.private_key.PrivateKeyDecode.decode.Goals as goal

pub returns-clause-form : goal.returns-clause-form
returns-clause-form g c = formed private_of cause _ _ _ c.private_key_from.ensures.gives
