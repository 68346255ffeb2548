use Rattle.sshkey_public.proofs.WrittenLines.{one_line_written, one_line_first, one_line_comment}
use Rattle.sshkey_public.proofs.one_line.makes_one_line.Goals as goal

pub returns-then-is_one_line : goal.returns-then-is_one_line
returns-then-is_one_line c = λ blob. (
  λ yes. one_line_written c.args.first.now blob c.args.comment.now (c.is_one_line.ensures.0 c.if-is_one_line.true) (c.is_one_line-then-is_one_line.ensures.0 yes),
  λ is. c.is_one_line-then-is_one_line.ensures.1 (one_line_comment c.args.first.now blob c.args.comment.now is),
)

pub returns-else-is_one_line : goal.returns-else-is_one_line
returns-else-is_one_line c = λ blob. (
  λ yes. absurd cc,
  λ is. c.is_one_line.ensures.1 (one_line_first c.args.first.now blob c.args.comment.now is),
)
