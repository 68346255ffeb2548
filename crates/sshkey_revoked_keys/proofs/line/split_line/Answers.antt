use Rattle.std.proofs.Common.{◌+◌, [], refl}
use Rattle.std.proofs.lemmas.List.{take_rest}
use Rattle.sshkey_revoked_keys.proofs.RevokedLines.{line_first, line_last, less_left}
use Rattle.sshkey_revoked_keys.proofs.line.split_line.Goals as goal

pub returns-in-Some-clause-lines : goal.returns-in-Some-clause-lines
returns-in-Some-clause-lines c = line_first c.args.text.now _ _ _ c.in-Some.end c.in-Some.ensures refl (take_rest c.args.text.now (c.in-Some.end + 1)) c.skip_blanks.ensures

pub returns-in-Some-clause-less : goal.returns-in-Some-clause-less
returns-in-Some-clause-less c = less_left c.args.text.now [] _ _ c.in-Some.end c.in-Some.ensures refl (take_rest c.args.text.now (c.in-Some.end + 1))

pub returns-in-None-clause-lines : goal.returns-in-None-clause-lines
returns-in-None-clause-lines c = line_last c.args.text.now _ c.in-None.ensures c.skip_blanks-in-None.ensures
