use Rattle.sshkey_entries.proofs.EntryExamples.{hashed_hosts}
use Rattle.sshkey_entries.proofs.examples.hashed_hosts.Goals as goal

pub returns : goal.returns
returns c = hashed_hosts
