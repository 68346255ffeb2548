use Rattle.std.proofs.Common.{sym}
use Rattle.sshkey_base.specs.Causes.{cause}
use Rattle.sshkey_keys_ref.proofs.WalkedBodies.{skips_other}
use Rattle.sshkey_keys_ref.proofs.body.after_certified.Goals as goal

pub returns-in_ok-check_certificate-in-None : goal.returns-in_ok-check_certificate-in-None
returns-in_ok-check_certificate-in-None c = skips_other cause cause c.args.name.now c.args.bytes.now c.after_string.result (sym c.in-None.ensures) c.in_ok-check_certificate-in-None.ensures c.after_string.ensures
