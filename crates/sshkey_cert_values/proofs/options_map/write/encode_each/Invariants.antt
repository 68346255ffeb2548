use Rattle.sshkey_cert_values.proofs.WrittenFields.{Decides}
use Rattle.sshkey_cert_values.proofs.options_map.write.encode_each.Given as goal

abbrev pub invariant-loop-name : goal.invariant-loop-name
invariant-loop-name g l = Decides l.options.0.entries g.W.Writer.fault l.name-iterator (g.W.Writer.sink l.fn.writer) (g.W.Writer.sink l.writer)
