use Rattle.sshkey_krl.proofs.Authorities.{renamed}
use Rattle.sshkey_krl.proofs.authority.is_normal_form.Goals as goal

pub returns-in-None : goal.returns-in-None
returns-in-None c = λ k s. renamed k c.args.bytes.now c.args.key.now.bytes.now _ (rw c.in-None.is at c.normal_bytes.ensures) s (rw c.as_bytes.ensures.bytes at c.is_renamed.ensures)
