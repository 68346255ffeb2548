use Rattle.std.proofs.Common.{refl}
use Rattle.sshkey_base.proofs.LabelLaws.{curve_ascii, curve_refusals}
use Rattle.sshkey_model.proofs.NameReaders.{curve_checks}
use Rattle.sshkey_base.proofs.Labels.{not_named}
use Rattle.sshkey_keys_ref.proofs.kinds.curve_in.Goals as goal

pub returns-in-Err : goal.returns-in-Err
returns-in-Err c = rw (not_named curve_checks curve_ascii curve_refusals c.args.string.now c.in-Err.ensures.cases.0) refl
