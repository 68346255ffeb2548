use Rattle.sshkey_cert_ref.proofs.OptionSteps.{option_first, option_there}
use Rattle.sshkey_cert_ref.proofs.certificate_options_ref.first_option.Goals as goal

pub unreachable-requires : goal.unreachable-requires
unreachable-requires c = option_there c.args.bytes.now c.in-Err.field-0 c.requires.some c.requires.form c.in-Err.ensures

pub returns-clause-first : goal.returns-clause-first
returns-clause-first c = (option_first c.args.bytes.now _ c.in-Ok.option c.requires.some c.requires.form c.in-Ok.ensures).all

pub returns-clause-form : goal.returns-clause-form
returns-clause-form c = (option_first c.args.bytes.now _ c.in-Ok.option c.requires.some c.requires.form c.in-Ok.ensures).later

pub returns-clause-shorter : goal.returns-clause-shorter
returns-clause-shorter c = (option_first c.args.bytes.now _ c.in-Ok.option c.requires.some c.requires.form c.in-Ok.ensures).shorter
