use Rattle.sshkey_base.specs.Causes.{cause}
use Rattle.sshkey_keys_ref.proofs.Acceptance.{passed, certified_grammar}
use Rattle.sshkey_keys_ref.proofs.body.skip_body.Goals as goal

pub returns-clause-spelled : goal.returns-clause-spelled
returns-clause-spelled c = passed (certified_grammar c.args.certificate_name.now) cause c.args.bytes.now c.after_certified.result c.after_certified.ensures
