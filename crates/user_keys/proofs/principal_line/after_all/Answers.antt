use Rattle.std.proofs.Common.{◌∙◌, ◌==◌, sym}
use Rattle.user_keys.proofs.PrincipalLines.{after_none, no_divider, some_divider}
use Rattle.user_keys.proofs.principal_line.after_all.Goals as goal

pub loop-more-preserved : goal.loop-more-preserved
loop-more-preserved c = c.loop-more.invariant ∙ (some_divider c.args.divider c.loop-more.rest.now c.in-Some.field-0-0 c.in-Some.more c.in-Some.ensures).1

pub returns : goal.returns
returns c = sym (c.loop-more.invariant ∙ after_none (λ x. x == c.args.divider) c.loop-more.rest.now (no_divider c.args.divider c.loop-more.rest.now c.in_default.ensures))
