use Rattle.std.proofs.Common.{sym, ◌∙◌}
use Rattle.sshkey_public.proofs.Filling.{comment_added}
use Rattle.sshkey_public.proofs.line_writer.LineWriter.push_comment.Goals as goal

pub returns-then-not-is_empty-clause-added : goal.returns-then-not-is_empty-clause-added
returns-then-not-is_empty-clause-added c = comment_added c.args.comment.now _ _ _ _ c.args.self.now.slice.now _ _ (sym c.is_empty.ensures ∙ c.if-not-is_empty.true) c.as_bytes.ensures.value c.push.ensures.added c.push-then-not-is_empty.ensures.added
