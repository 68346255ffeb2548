use Rattle.std.proofs.Common.{◌∙◌}
use Rattle.sshkey_cert_values.proofs.OptionNames.{below_is}
use Rattle.sshkey_cert_ref.proofs.certificate_options_ref.item.may_follow.Goals as goal

pub returns-in-Some : goal.returns-in-Some
returns-in-Some c = rw c.in-Some.is (c.lt.ensures ∙ below_is c.in-Some.before.name.now c.args.option.name.now)
