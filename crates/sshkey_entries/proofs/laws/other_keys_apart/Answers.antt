use Rattle.sshkey_entries.proofs.OtherKeys.{no_key_begins, other_line_none}
use Rattle.sshkey_entries.proofs.laws.other_keys_apart.Goals as goal

pub returns-clause-names : goal.returns-clause-names
returns-clause-names c = no_key_begins

pub returns-clause-lines : goal.returns-clause-lines
returns-clause-lines c = other_line_none
