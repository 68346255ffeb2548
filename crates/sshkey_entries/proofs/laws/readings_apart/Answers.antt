use Rattle.sshkey_entries.proofs.OneEntry.{readings_apart}
use Rattle.sshkey_entries.proofs.laws.readings_apart.Goals as goal

pub returns : goal.returns
returns c = readings_apart
