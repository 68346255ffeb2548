use Rattle.std.proofs.Common.{arith}
use Rattle.sshkey_model.proofs.CombinedReaders.{fit_bytes}
use Rattle.sshkey_base.proofs.Lending.{lent_first}
use Rattle.sshkey_base.proofs.reader.first.Goals as goal

pub returns-clause-lent : goal.returns-clause-lent
returns-clause-lent c = lent_first c.args.len c.args.bytes.now (omega arith) (fit_bytes c.args.bytes.now (λ i. omega (arith, c.type_inv.bytes i)))
