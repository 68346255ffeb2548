use Rattle.std.proofs.Common.{sym, ◌∙◌}
use Rattle.sshkey_authorized_keys.proofs.OptionCuts.{no_value_there, no_end_there}
use Rattle.sshkey_authorized_keys.proofs.openssh_option.OpenSshOption.split.Goals as goal

pub returns-in_default : goal.returns-in_default
returns-in_default c = no_value_there c.args.text.now c.split_name.result.0.now c.split_name.result.1.now c.split_name.ensures c.in_default.ensures

pub returns-then-not-ends_option : goal.returns-then-not-ends_option
returns-then-not-ends_option c = no_end_there c.args.text.now c.split_name.result.0.now c.split_name.result.1.now c.split_name.ensures c.in-Some.rest.now c.in-Some.ensures.1
    (λ here. cc (sym c.if-not-ends_option.true ∙ c.ends_option.ensures.1 here))
