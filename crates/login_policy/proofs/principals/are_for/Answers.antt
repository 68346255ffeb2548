use Rattle.std.proofs.Common.{sym, ◌∙◌}
use Rattle.login_policy.proofs.KnownOptions.{nothing, filled}
use Rattle.login_policy.proofs.Logins.{nobody, somebody}
use Rattle.login_policy.proofs.principals.are_for.Goals as goal

pub returns-then-is_empty : goal.returns-then-is_empty
returns-then-is_empty c = (λ yes. absurd cc, λ are. absurd (are.named ((nothing c.args.user.now c.is_empty.result c.is_empty.ensures).0 c.if-is_empty.true)))

pub returns-then-is_empty-2 : goal.returns-then-is_empty-2
returns-then-is_empty-2 c = (λ yes. absurd cc, λ are. absurd (nobody c.args.names.now (sym c.is_empty-2.ensures ∙ c.if-is_empty-2.true) are.some))

pub returns : goal.returns
returns c = (
  λ yes. record { named = filled c.args.user.now c.is_empty.result c.is_empty.ensures c.if-is_empty.false; some = somebody c.args.names.now (sym c.is_empty-2.ensures ∙ c.if-is_empty-2.false); read = c.openssh_reads_principals.ensures.0 yes },
  λ are. c.openssh_reads_principals.ensures.1 are.read,
)
