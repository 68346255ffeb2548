use Rattle.sshkey_calls.proofs.Options.{begins, no_name, no_value, other_value}
use Rattle.sshkey_calls.proofs.option.split_option.Goals as goal

pub returns-in_default-clause-none : goal.returns-in_default-clause-none
returns-in_default-clause-none c = no_name c.args.bytes.now c.in_default.ensures.accepts

pub returns-in_default-split_string-clause-none : goal.returns-in_default-split_string-clause-none
returns-in_default-split_string-clause-none c = no_value c.args.bytes.now c.in-Ok.name.now c.in-Ok.rest.now c.in-Ok.ensures.accepts c.in_default-split_string.ensures.accepts

pub returns-in-Some-clause-split : goal.returns-in-Some-clause-split
returns-in-Some-clause-split c = begins c.args.bytes.now c.in-Ok.name.now c.in-Ok.rest.now c.in-Ok-split_string.string.now c.in-Some.value.now c.in-Ok-split_string.after.now c.in-Ok.ensures.accepts c.in-Ok-split_string.ensures.accepts c.in-Some.ensures.value

pub returns-in-None-clause-none : goal.returns-in-None-clause-none
returns-in-None-clause-none c = other_value c.args.bytes.now c.in-Ok.name.now c.in-Ok.rest.now c.in-Ok-split_string.string.now c.in-Ok-split_string.after.now c.in-Ok.ensures.accepts c.in-Ok-split_string.ensures.accepts c.in-None.ensures.none
