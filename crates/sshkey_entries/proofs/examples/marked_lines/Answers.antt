use Rattle.sshkey_entries.proofs.EntryExamples.{marked}
use Rattle.sshkey_entries.proofs.examples.marked_lines.Goals as goal

pub returns : goal.returns
returns c = marked
