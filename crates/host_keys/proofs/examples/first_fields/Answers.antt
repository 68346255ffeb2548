use Rattle.std.proofs.Common.{codes, refl, arith}
use Rattle.sshkey_model.proofs.LineTests.{lacks}
use Rattle.host_keys.specs.Hosts.{ForUsers, OtherKeyId, OtherPrincipals, SomeOption}
use Rattle.host_keys.proofs.examples.first_fields.Goals as goal

pub returns : goal.returns
returns c = (
  ForUsers (λ e. cc e),
  ForUsers (λ e. cc e),
  SomeOption refl (λ e. cc e),
  OtherKeyId refl refl (λ free. free 1 (omega arith) refl),
  OtherPrincipals refl refl (lacks 0 (codes "id") refl) (λ are. are.some refl),
)
