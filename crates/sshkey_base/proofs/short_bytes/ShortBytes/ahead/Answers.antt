use Rattle.std.proofs.Common.{arith}
use Rattle.sshkey_base.proofs.Lending.{lent_short}
use Rattle.sshkey_base.proofs.short_bytes.ShortBytes.ahead.Goals as goal

pub returns-clause-lent : goal.returns-clause-lent
returns-clause-lent g c = lent_short g.row.MAX c.args.len (g.R.Reader.source c.args.reader.now) c.ahead.result (omega arith) c.ahead.ensures.lent c.ahead.ensures.within
