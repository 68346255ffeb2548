use Rattle.std.proofs.Common.{arith}
use Rattle.sshkey_public.proofs.Filling.{put_added}
use Rattle.sshkey_public.proofs.line_writer.LineWriter.push.Goals as goal

pub returns-clause-added : goal.returns-clause-added
returns-clause-added c = put_added c.args.self.now.slice.now _ _ _ _ _ (omega (arith, c.requires)) (omega arith) (omega arith) c.copy_from_slice.ensures.after
