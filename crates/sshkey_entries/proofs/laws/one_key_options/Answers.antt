use Rattle.sshkey_entries.proofs.OptionItems.{one_options}
use Rattle.sshkey_entries.proofs.laws.one_key_options.Goals as goal

pub returns : goal.returns
returns c = one_options
