use Rattle.std.proofs.Common.{◌+◌, ◌-◌, length, arith}
use Rattle.std.proofs.lemmas.Grind.{common_steps}
use Rattle.std.proofs.lemmas.Slice.{drop-put_mid}
use Rattle.sshkey_model.proofs.CombinedReaders.{fit_bytes}
use Rattle.sshkey_base.proofs.writer.SliceWriterWriter.write.Goals as goal

pub returns-clause-writes : goal.returns-clause-writes
returns-clause-writes c = record { added = grind (arith, common_steps); limit = grind (arith, common_steps); are = fit_bytes c.args.bytes.now (λ i. omega (arith, c.type_inv.bytes i)) }

pub returns-clause-after : goal.returns-clause-after
returns-clause-after c = drop-put_mid c.args.self.now.len (c.args.self.now.len + length c.args.bytes.now - c.args.self.now.len) c.args.self.now.slice.now c.copy_from_slice.new.self (c.args.self.now.len + length c.args.bytes.now) (omega arith) (omega arith) (omega arith)
