use Rattle.sshkey_entries.proofs.OneOpenSshLine.{one_host_line}
use Rattle.sshkey_entries.proofs.laws.one_host_line.Goals as goal

pub returns : goal.returns
returns c = one_host_line
