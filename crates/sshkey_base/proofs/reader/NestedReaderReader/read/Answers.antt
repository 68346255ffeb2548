use Rattle.std.proofs.Common.{arith}
use Rattle.sshkey_base.proofs.Places.{part_takes, part_stands}
use Rattle.sshkey_base.proofs.reader.NestedReaderReader.read.Goals as goal

pub returns-clause-takes : goal.returns-clause-takes
returns-clause-takes g c = rw (c.remaining_len-before.ensures, c.remaining_len.ensures) (part_takes c.args.self.now.inner.ghost_name c.args.self.now.remaining (g.R.Reader.source c.args.self.now.inner.now) (g.R.Reader.source c.read-result.new.self) c.read-result.new.buffer c.read-result.result (omega arith) c.read-result.ensures.takes c.read-result.ensures.later)

pub returns-clause-later : goal.returns-clause-later
returns-clause-later g c = rw (c.remaining_len-before.ensures, c.remaining_len.ensures) (part_stands c.args.self.now.inner.ghost_name c.args.self.now.remaining (g.R.Reader.source c.args.self.now.inner.now) (g.R.Reader.source c.read-result.new.self) c.read-result.new.buffer c.read-result.result (omega arith) c.read-result.ensures.takes c.read-result.ensures.later)
