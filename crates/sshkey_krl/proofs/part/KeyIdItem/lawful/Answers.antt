use Rattle.sshkey_krl.proofs.Lawful.{key_id_shows}
use Rattle.sshkey_krl.proofs.part.KeyIdItem.lawful.Goals as goal

pub returns-clause-has_bytes : goal.returns-clause-has_bytes
returns-clause-has_bytes c = key_id_shows
