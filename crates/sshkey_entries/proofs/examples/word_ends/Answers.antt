use Rattle.sshkey_entries.proofs.EntryExamples.{word_ends}
use Rattle.sshkey_entries.proofs.examples.word_ends.Goals as goal

pub returns : goal.returns
returns c = word_ends
