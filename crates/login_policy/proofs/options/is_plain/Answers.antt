use Rattle.login_policy.proofs.options.is_plain.Goals as goal

pub returns-then-openssh_reads_text : goal.returns-then-openssh_reads_text
returns-then-openssh_reads_text c = (
  λ yes. record { no_zero = c.openssh_reads_text.ensures.0 c.if-openssh_reads_text.true; empty = c.is_empty_if_flag.ensures.0 yes },
  λ plain. c.is_empty_if_flag.ensures.1 plain.empty,
)
