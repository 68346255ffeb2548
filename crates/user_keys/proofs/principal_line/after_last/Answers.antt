use Rattle.std.proofs.Common.{◌∙◌, sym}
use Rattle.user_keys.proofs.PrincipalLines.{no_divider, some_divider}
use Rattle.user_keys.proofs.principal_line.after_last.Goals as goal

pub returns-in-Some : goal.returns-in-Some
returns-in-Some c = let found = some_divider c.args.divider c.args.text.now c.in-Some.field-0-0 c.in-Some.rest c.in-Some.ensures in (found.0, c.after_all.ensures ∙ sym found.1)

pub returns-in-None : goal.returns-in-None
returns-in-None c = no_divider c.args.divider c.args.text.now c.in-None.ensures
