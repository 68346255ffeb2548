use Rattle.sshkey_revoked_keys.proofs.RevokedLines.{one_key}
use Rattle.sshkey_revoked_keys.proofs.laws.one_revoked_key.Goals as goal

pub returns : goal.returns
returns c = one_key
