use Rattle.user_keys.proofs.PrincipalLines.{first_part, no_part}
use Rattle.user_keys.proofs.text.before_first.Goals as goal

pub returns-in-Some : goal.returns-in-Some
returns-in-Some c = first_part c.args.end c.args.text.now c.in-Some.front c.in-Some.field-0-1 c.in-Some.ensures

pub returns-in-None : goal.returns-in-None
returns-in-None c = no_part c.args.end c.args.text.now c.in-None.ensures
