use Rattle.std.proofs.Common.{arith}
use Rattle.sshkey_model.specs.Parts.{flat}
use Rattle.sshkey_base64.proofs.GoodBytes.{length_word}
use Rattle.sshkey_public.proofs.Filling.{put_added}
use Rattle.sshkey_public.proofs.line_writer.LineWriter.push_word.Goals as goal

pub returns-clause-added : goal.returns-clause-added
returns-clause-added g c = put_added c.args.self.now.slice.now _ _ _ _ _ (omega (arith, c.requires.room, c.div_ceil.ensures)) (omega (arith, length_word (flat (g.T.Encode.normal c.args.value.now)), c.requires.counted, c.div_ceil.ensures)) (omega (arith, c.div_ceil.ensures)) c.fill_word.ensures
