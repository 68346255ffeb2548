use Rattle.user_keys.proofs.PrincipalLines.{first_line, only_line}
use Rattle.user_keys.proofs.text.split_line.Goals as goal

pub returns-in-Some : goal.returns-in-Some
returns-in-Some c = first_line c.args.text.now c.in-Some.line c.in-Some.rest c.in-Some.ensures

pub returns-in-None : goal.returns-in-None
returns-in-None c = only_line c.args.text.now c.in-None.ensures
