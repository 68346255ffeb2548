use Rattle.std.proofs.lemmas.Result.{err_from_is_err_and}
use Rattle.sshkey_tool.proofs.Outcomes.{refusal, shows}
use Rattle.sshkey_tool.proofs.shown.shown_of_key_line.Goals as goal

pub returns-in_err-key : goal.returns-in_err-key
returns-in_err-key c = let p = err_from_is_err_and c.from_residual.result c.from_residual.ensures.1 in rw (p.1, p.2) (refusal _ c.in_err-key.ensures.reads)

pub returns : goal.returns
returns c = shows _ _ c.in_ok-key.key c.shown_of_key.result c.in_ok-key.ensures.reads c.shown_of_key.ensures
