use Rattle.std.proofs.Common.{sym, ◌∙◌, arith}
use Rattle.std.specs.Prelude.{string_bytes}
use Rattle.authority.proofs.Lists.{each_allowed, few_mapped, nobody, some_mapped, too_many}
use Rattle.authority.proofs.limits.Limits.allows_principals.Goals as goal

pub returns-then-is_empty : goal.returns-then-is_empty
returns-then-is_empty c = (λ yes. absurd cc, λ are. absurd (nobody string_bytes c.args.names.now (sym c.is_empty.ensures ∙ c.if-is_empty.true) are.0))

pub returns-then-names-gt-MOST_PRINCIPALS : goal.returns-then-names-gt-MOST_PRINCIPALS
returns-then-names-gt-MOST_PRINCIPALS c = (λ yes. absurd cc, λ are. absurd (too_many string_bytes c.args.names.now (omega (arith, c.if-names-gt-MOST_PRINCIPALS.true)) are.1))

pub returns : goal.returns
returns c =
    let some = some_mapped string_bytes c.args.names.now (sym c.is_empty.ensures ∙ c.if-is_empty.false) in
    let few = few_mapped string_bytes c.args.names.now (omega (arith, c.if-names-gt-MOST_PRINCIPALS.false)) in
    let allowed = rw c.deref.ensures.value at (each_allowed c.args.names.now c.deref.result.now c.allows_each.result c.allows_each.ensures) in
    (λ yes. (some, few, allowed.0 yes), λ names. allowed.1 names.2)
