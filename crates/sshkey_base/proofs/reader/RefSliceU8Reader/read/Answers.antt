use Rattle.std.proofs.Common.{◌∙◌, ap, ◌++◌, refl, sym, arith}
use Rattle.sshkey_model.proofs.CombinedReaders.{fit_bytes}
use Rattle.sshkey_base.proofs.reader.RefSliceU8Reader.read.Goals as goal

pub returns-clause-takes : goal.returns-clause-takes
returns-clause-takes c = record { taken = c.split_at.ensures.by_index.0 ∙ ap (λ (x : _). x ++ c.split_at.result.1.now) (sym c.copy_from_slice.ensures.after); missing = refl; outer = refl; are = fit_bytes c.copy_from_slice.new.self (λ i. omega (arith, c.type_inv.buffer i)) }
