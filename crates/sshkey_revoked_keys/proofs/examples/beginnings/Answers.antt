use Rattle.std.proofs.Common.{refl}
use Rattle.sshkey_entries.specs.Fields.{without_front}
use Rattle.sshkey_revoked_keys.specs.RevokedKeys.{revoked_lines}
use Rattle.sshkey_revoked_keys.proofs.examples.beginnings.Goals as goal

pub returns : goal.returns
unfolding revoked_lines without_front
returns c = (refl, refl, refl, refl)
