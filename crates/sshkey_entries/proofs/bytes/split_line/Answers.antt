use Rattle.std.proofs.Common.{◌+◌}
use Rattle.std.proofs.lemmas.List.{take_rest}
use Rattle.sshkey_entries.proofs.ByteLines.{cut_at, cut_last}
use Rattle.sshkey_entries.proofs.bytes.split_line.Goals as goal

pub returns-in-Some : goal.returns-in-Some
returns-in-Some c = cut_at c.args.text.now _ _ c.in-Some.end c.in-Some.ensures c.without_return.ensures (take_rest c.args.text.now (c.in-Some.end + 1))

pub returns-in-None : goal.returns-in-None
returns-in-None c = cut_last c.args.text.now c.requires c.in-None.ensures
