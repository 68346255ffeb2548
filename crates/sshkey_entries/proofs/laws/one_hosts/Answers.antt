use Rattle.sshkey_entries.proofs.OneEntry.{one_hosts}
use Rattle.sshkey_entries.proofs.laws.one_hosts.Goals as goal

pub returns : goal.returns
returns c = one_hosts
