use Rattle.std.proofs.Common.{[], codes, refl, arith}
use Rattle.std.specs.Int.Count.{count_leading_zeros}
use Rattle.sshkey_model.proofs.LineTests.{lacks}
use Rattle.host_keys.specs.Hosts.{OddKeyId, OddPrincipals, OtherSigner}
use Rattle.host_keys.proofs.examples.first_unread.Goals as goal

pub returns : goal.returns
unfolding count_leading_zeros
returns c = (
  OtherSigner refl,
  OtherSigner refl,
  OddKeyId refl (λ id. id 0 (omega arith) refl),
  OddPrincipals refl (lacks 0 (codes "id") refl) (λ names. names.no_zero 0 [] (omega arith) 0 (omega arith) refl),
)
