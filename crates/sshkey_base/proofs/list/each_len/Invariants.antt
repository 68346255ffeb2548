use Rattle.sshkey_base.proofs.WrittenLists.{HasLen}
use Rattle.sshkey_base.proofs.list.each_len.Given as goal

abbrev pub invariant-loop-value : goal.invariant-loop-value
invariant-loop-value g l = HasLen g.T.Encode.normal l.values l.value-index l.len
