use Rattle.std.proofs.Common.{◌-◌, ◌/◌, length}
use Rattle.sshkey_base64.proofs.Symbols.{Decoded}
use Rattle.sshkey_base64.proofs.groups.decode_symbols.Given as goal

abbrev pub invariant-groups : goal.invariant-groups
invariant-groups l = Decoded l.fn.text l.fn.bytes l.bytes l.done

abbrev pub decreases-groups : goal.decreases-groups
decreases-groups l = length l.fn.text / 4 - l.done
