use Rattle.sshkey_entries.specs.Entries.{is_line_end}
use Rattle.sshkey_entries.proofs.ByteLines.{first_place}
use Rattle.sshkey_entries.proofs.bytes.first_line_end.Goals as goal

pub returns : goal.returns
returns c = first_place is_line_end c.args.text.now c.memchr.result c.memchr.ensures
