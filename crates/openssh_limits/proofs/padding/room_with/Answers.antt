use Rattle.std.proofs.Common.{rules}
use Rattle.openssh_limits.proofs.PaddedQuestions.{placed}
use Rattle.openssh_limits.proofs.padding.room_with.Goals as goal

pub returns : goal.returns
returns c = placed c.args.zeros _ _ c.copy_from_slice.new.self c.args.bytes.now (search rules) (search rules) c.requires
