use Rattle.sshkey_known_hosts.proofs.Verdicts.{one_verdict}
use Rattle.sshkey_known_hosts.proofs.laws.one_verdict.Goals as goal

pub returns : goal.returns
returns c = one_verdict
