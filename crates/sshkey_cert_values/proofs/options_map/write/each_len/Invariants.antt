use Rattle.sshkey_cert_values.proofs.WrittenFields.{HasLen}
use Rattle.sshkey_cert_values.proofs.options_map.write.each_len.Given as goal

abbrev pub invariant-loop-name : goal.invariant-loop-name
invariant-loop-name l = HasLen l.options.0.entries l.name-iterator l.len
