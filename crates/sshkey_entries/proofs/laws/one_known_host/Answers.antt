use Rattle.sshkey_entries.proofs.OneEntry.{one_host}
use Rattle.sshkey_entries.proofs.laws.one_known_host.Goals as goal

pub returns : goal.returns
returns c = one_host
