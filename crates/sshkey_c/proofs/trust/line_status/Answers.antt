use Rattle.sshkey_keys.specs.Keys.{key_of}
use Rattle.sshkey_c.proofs.Verdicts.{is_passed, it_may}
use Rattle.sshkey_c.proofs.trust.line_status.Goals as goal

pub returns-then-line_may_name_key : goal.returns-then-line_may_name_key
returns-then-line_may_name_key c = it_may (key_of c.args.key.now) c.args.line.now c.line_may_name_key.result c.line_may_name_key.ensures.spelled c.if-line_may_name_key.true

pub returns : goal.returns
returns c = is_passed (key_of c.args.key.now) c.args.line.now c.line_may_name_key.result c.line_may_name_key.ensures.spelled c.if-line_may_name_key.false (c.line_may_name_key.ensures.passed c.if-line_may_name_key.false)
