use Rattle.std.proofs.Common.{refl}
use Rattle.sshkey_base.proofs.Utf8.{text_from-IsUtf8, text_from-not}
use Rattle.sshkey_terms.proofs.split.text_of.Goals as goal

pub returns-in-Ok : goal.returns-in-Ok
returns-in-Ok c = rw (text_from-IsUtf8 c.args.bytes.now c.in-Ok.ensures.cases.1) c.in-Ok.ensures.cases.0

pub returns-in-Err : goal.returns-in-Err
returns-in-Err c = rw (text_from-not c.args.bytes.now c.in-Err.ensures.cases.0) refl
