use Rattle.sshkey_base.specs.Causes.{cause}
use Rattle.sshkey_keys_ref.proofs.WalkedBodies.{skips_opaque}
use Rattle.sshkey_keys_ref.proofs.body.after_kind.Goals as goal

pub returns-in-Other : goal.returns-in-Other
returns-in-Other c = rw c.in-Other.is (skips_opaque cause _ c.args.bytes.now c.after_string.result c.after_string.ensures)
