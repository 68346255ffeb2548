use Rattle.std.proofs.Common.{arith}
use Rattle.sshkey_model.specs.Parts.{each}
use Rattle.sshkey_base.proofs.Writing.{length_box}
use Rattle.sshkey_base.proofs.list.list_len.Goals as goal

pub returns-clause-measures : goal.returns-clause-measures
returns-clause-measures g c = (c.in_ok-len.ensures.0, omega (arith, length_box (each g.T.Encode.normal c.args.values.now), c.in_ok-len.ensures.1))
