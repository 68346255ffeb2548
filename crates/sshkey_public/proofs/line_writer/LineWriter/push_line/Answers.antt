use Rattle.std.proofs.Common.{arith}
use Rattle.sshkey_model.specs.Parts.{flat}
use Rattle.sshkey_base64.proofs.GoodBytes.{length_word}
use Rattle.sshkey_public.proofs.Filling.{line_filled}
use Rattle.sshkey_public.proofs.line_writer.LineWriter.push_line.Goals as goal

pub push_comment-requires : goal.push_comment-requires
push_comment-requires g c =
    omega (arith, c.push.ensures.added.len, c.push-2.ensures.added.len, c.push_word.ensures.added.len, c.push.ensures.added.room, c.push-2.ensures.added.room, c.push_word.ensures.added.room, length_word (flat (g.T.Encode.normal c.args.value.now)), c.requires.counted, c.requires.room, c.requires.empty, c.as_bytes.ensures.len)

pub returns-clause-begins : goal.returns-clause-begins
returns-clause-begins g c = line_filled c.args.name.now _ (flat (g.T.Encode.normal c.args.value.now)) c.args.comment.now _ _ _ _ _ _ _ _ _ _ c.requires.empty c.as_bytes.ensures.value c.push.ensures.added c.push-2.ensures.added c.push_word.ensures.added c.push_comment.ensures.added
