use Rattle.sshkey_base.proofs.Lending.{part_after}
use Rattle.sshkey_base.proofs.reader.NestedReaderReader.skip.Goals as goal

pub returns : goal.returns
returns g c = part_after c.args.self.now.inner.ghost_name c.args.self.now.remaining c.args.len (g.R.Reader.source c.args.self.now.inner.now) (g.R.Reader.source c.skip.new.self) c.requires c.skip.ensures
