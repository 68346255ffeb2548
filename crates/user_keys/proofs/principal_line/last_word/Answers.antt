use Rattle.std.proofs.Common.{sym}
use Rattle.user_keys.proofs.PrincipalLines.{one_word}
use Rattle.user_keys.proofs.principal_line.last_word.Goals as goal

pub returns-in-None-after_last : goal.returns-in-None-after_last
returns-in-None-after_last c = sym (one_word c.args.text.now c.in-None.ensures c.in-None-after_last.ensures)
