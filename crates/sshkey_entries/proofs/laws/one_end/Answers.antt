use Rattle.sshkey_entries.proofs.OneEntry.{one_end}
use Rattle.sshkey_entries.proofs.laws.one_end.Goals as goal

pub returns : goal.returns
returns c = one_end
