use Rattle.sshkey_entries.specs.Fields.{is_blank}
use Rattle.sshkey_entries.proofs.ByteLines.{first_place}
use Rattle.sshkey_entries.proofs.blanks.first_blank.Goals as goal

pub returns : goal.returns
returns c = first_place is_blank c.args.text.now c.memchr2.result c.memchr2.ensures
