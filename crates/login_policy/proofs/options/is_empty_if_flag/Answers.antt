use Rattle.login_policy.proofs.KnownOptions.{flag, no_flag, nothing}
use Rattle.login_policy.proofs.options.is_empty_if_flag.Goals as goal

pub returns-then-is_flag : goal.returns-then-is_flag
returns-then-is_flag c = flag (record { name = c.args.name.now; value = c.args.value.now }) c.is_flag.result c.is_empty.result c.is_flag.ensures c.if-is_flag.true (nothing c.args.value.now c.is_empty.result c.is_empty.ensures)

pub returns : goal.returns
returns c = no_flag (record { name = c.args.name.now; value = c.args.value.now }) c.is_flag.result c.is_flag.ensures c.if-is_flag.false
