use Rattle.std.proofs.Common.{arith}
use Rattle.sshkey_known_hosts.proofs.Wholes.{decoded_twenty, none_decoded}
use Rattle.sshkey_known_hosts.proofs.named_hosts.read_word.Goals as goal

pub returns-in_err-len : goal.returns-in_err-len
returns-in_err-len c = rw c.from_residual.ensures (none_decoded c.args.word.now c.in_err-len.ensures)

pub returns : goal.returns
returns c = decoded_twenty c.args.word.now (λ i. omega (arith, c.type_inv.word i)) c.decode.new.room _ _ c.in_ok-len.ensures c.copy_from_slice.ensures.after
