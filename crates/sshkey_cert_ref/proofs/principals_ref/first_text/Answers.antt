use Rattle.sshkey_cert_ref.proofs.TextSteps.{text_first, text_there}
use Rattle.sshkey_cert_ref.proofs.principals_ref.first_text.Goals as goal

pub unreachable-requires : goal.unreachable-requires
unreachable-requires c = text_there c.args.bytes.now c.in-Err.field-0 c.requires.some c.requires.form c.in-Err.ensures.gives

pub returns-clause-first : goal.returns-clause-first
returns-clause-first c = (text_first c.args.bytes.now _ c.in-Ok.text c.requires.some c.requires.form c.in-Ok.ensures.gives).all

pub returns-clause-text : goal.returns-clause-text
returns-clause-text c = (text_first c.args.bytes.now _ c.in-Ok.text c.requires.some c.requires.form c.in-Ok.ensures.gives).is

pub returns-clause-form : goal.returns-clause-form
returns-clause-form c = (text_first c.args.bytes.now _ c.in-Ok.text c.requires.some c.requires.form c.in-Ok.ensures.gives).later

pub returns-clause-shorter : goal.returns-clause-shorter
returns-clause-shorter c = (text_first c.args.bytes.now _ c.in-Ok.text c.requires.some c.requires.form c.in-Ok.ensures.gives).less
