use Rattle.std.proofs.Common.{arith}
use Rattle.openssh_limits.proofs.PlainTexts.{few_read, too_many}
use Rattle.openssh_limits.proofs.texts.openssh_reads_principals.Goals as goal

pub returns-then-names-gt-MOST_PRINCIPALS : goal.returns-then-names-gt-MOST_PRINCIPALS
returns-then-names-gt-MOST_PRINCIPALS c = (λ yes. absurd cc, λ are. absurd (too_many c.args.names.now (omega (arith, c.if-names-gt-MOST_PRINCIPALS.true)) are))

pub returns : goal.returns
returns c = few_read c.args.names.now c.are_read_texts.result (omega (arith, c.if-names-gt-MOST_PRINCIPALS.false)) c.are_read_texts.ensures
