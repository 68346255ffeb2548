use Rattle.sshkey_entries.proofs.EntryExamples.{options}
use Rattle.sshkey_entries.proofs.examples.option_lines.Goals as goal

pub returns : goal.returns
returns c = options
