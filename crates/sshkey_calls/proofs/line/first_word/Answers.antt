use Rattle.std.proofs.Common.{Some, None}
use Rattle.sshkey_public.proofs.ReadLines.{only_cut}
use Rattle.sshkey_calls.proofs.line.first_word.Goals as goal

pub returns-in-Some : goal.returns-in-Some
returns-in-Some c w m without is = (only_cut c.args.text.now (Some c.in-Some.cut) c.in-Some.ensures.cases w m without is).0

pub returns-in-None : goal.returns-in-None
returns-in-None c w m without is = (only_cut c.args.text.now None c.in-None.ensures.cases w m without is).0
