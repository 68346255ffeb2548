use Rattle.sshkey_known_hosts.proofs.UnreadableLines.{has_line}
use Rattle.sshkey_known_hosts.proofs.laws.unreadable_lines.Goals as goal

pub returns : goal.returns
returns c = has_line
