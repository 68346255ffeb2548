use Rattle.sshkey_public.proofs.WrittenLines.{line_written}
use Rattle.sshkey_public.proofs.line.write_line.Goals as goal

pub returns : goal.returns
returns g c = line_written _ _ c.args.comment.now _ _ _ _ c.in_ok-len.ensures.measures.0 c.write_parts.ensures
