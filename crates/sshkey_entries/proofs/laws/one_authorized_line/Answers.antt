use Rattle.sshkey_entries.proofs.OneOpenSshLine.{one_authorized_line}
use Rattle.sshkey_entries.proofs.laws.one_authorized_line.Goals as goal

pub returns : goal.returns
returns c = one_authorized_line
