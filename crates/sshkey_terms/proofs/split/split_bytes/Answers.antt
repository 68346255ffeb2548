use Rattle.std.proofs.Common.{arith, refl}
use Rattle.sshkey_model.proofs.CombinedReaders.{fit_bytes}
use Rattle.sshkey_terms.proofs.SliceFronts.{too_few, cut_off}
use Rattle.sshkey_terms.proofs.split.split_bytes.Goals as goal

pub returns-then-bytes-len : goal.returns-then-bytes-len
returns-then-bytes-len c = rw (too_few c.args.len c.args.bytes.now (omega arith)) refl

pub returns : goal.returns
returns c = rw (cut_off c.args.len c.args.bytes.now (fit_bytes c.args.bytes.now (λ i. omega (arith, c.type_inv.bytes i))) (omega arith), c.split_at.ensures.front, c.split_at.ensures.back) refl
