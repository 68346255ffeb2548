use Rattle.std.proofs.Common.{refl}
use Rattle.sshkey_base.proofs.Labels.{not_named}
use Rattle.sshkey_base.proofs.label.named.Goals as goal

pub returns-in-Err : goal.returns-in-Err
returns-in-Err g c = record {
  gives = λ _. (not_named c.lawful_label.ensures.checks c.lawful_label.ensures.ascii c.lawful_label.ensures.refusals c.args.name.now c.in-Err.ensures.cases.0, refl);
  asks = λ memory. absurd (cc memory);
}
