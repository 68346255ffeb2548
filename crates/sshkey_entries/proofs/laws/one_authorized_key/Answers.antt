use Rattle.sshkey_entries.proofs.OneEntry.{one_entry}
use Rattle.sshkey_entries.proofs.laws.one_authorized_key.Goals as goal

pub returns : goal.returns
returns c = one_entry
