use Rattle.openssh_limits.proofs.PlainTexts.{without}
use Rattle.openssh_limits.proofs.texts.openssh_reads_text.Goals as goal

pub returns : goal.returns
returns c = rw c.has_no_zero.ensures (without c.args.text.now)
