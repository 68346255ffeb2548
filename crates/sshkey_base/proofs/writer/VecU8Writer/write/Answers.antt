use Rattle.std.proofs.Common.{rules, arith}
use Rattle.sshkey_model.proofs.CombinedReaders.{fit_bytes}
use Rattle.sshkey_base.proofs.writer.VecU8Writer.write.Goals as goal

pub returns : goal.returns
returns c = record { added = search rules; limit = search rules; are = fit_bytes c.args.bytes.now (λ i. omega (arith, c.type_inv.bytes i)) }
