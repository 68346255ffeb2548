use Rattle.login_policy.proofs.KnownOptions.{filled}
use Rattle.login_policy.proofs.options.is_argument.Goals as goal

pub returns-then-not-is_empty : goal.returns-then-not-is_empty
returns-then-not-is_empty c = (
  λ yes. record { some = filled c.args.value.now c.is_empty.result c.is_empty.ensures c.if-not-is_empty.true; no_zero = c.openssh_reads_text.ensures.0 yes },
  λ is. c.openssh_reads_text.ensures.1 is.no_zero,
)
