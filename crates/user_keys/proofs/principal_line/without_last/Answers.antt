use Rattle.std.proofs.Common.{sym, ◌∙◌}
use Rattle.user_keys.proofs.PrincipalLines.{empty_kept, kept, shorter}
use Rattle.user_keys.proofs.principal_line.without_last.Goals as goal

pub returns-in_default : goal.returns-in_default
returns-in_default c = empty_kept c.args.text.now c.in_default.ensures.cases

pub returns-then-is_blank : goal.returns-then-is_blank
returns-then-is_blank c = shorter c.args.text.now c.in-Some.front.now c.in-Some.last.now (sym c.is_blank.ensures ∙ c.if-is_blank.true) c.in-Some.ensures.cases.0

pub returns-else-is_blank : goal.returns-else-is_blank
returns-else-is_blank c = kept c.args.text.now c.in-Some.front.now c.in-Some.last.now (sym c.is_blank.ensures ∙ c.if-is_blank.false) c.in-Some.ensures.cases.0
