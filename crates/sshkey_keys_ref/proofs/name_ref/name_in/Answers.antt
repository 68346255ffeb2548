use Rattle.std.proofs.Common.{refl}
use Rattle.sshkey_base.proofs.LabelLaws.{algorithm_ascii, algorithm_refusals}
use Rattle.sshkey_model.proofs.NameReaders.{algorithm_checks}
use Rattle.sshkey_base.proofs.Labels.{not_named}
use Rattle.sshkey_keys_ref.proofs.name_ref.name_in.Goals as goal

pub returns-in-Err : goal.returns-in-Err
returns-in-Err c = rw (not_named algorithm_checks algorithm_ascii algorithm_refusals c.args.string.now c.in-Err.ensures.cases.0) refl
