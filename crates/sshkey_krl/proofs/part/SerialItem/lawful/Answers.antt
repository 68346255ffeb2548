use Rattle.sshkey_krl.proofs.Lawful.{serial_shows}
use Rattle.sshkey_krl.proofs.part.SerialItem.lawful.Goals as goal

pub returns-clause-has_bytes : goal.returns-clause-has_bytes
returns-clause-has_bytes c = serial_shows
