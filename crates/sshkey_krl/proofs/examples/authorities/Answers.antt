use Rattle.std.proofs.Common.{refl}
use Rattle.std.specs.Int.Count.{count_leading_zeros}
use Rattle.sshkey_krl.specs.Revocation.{significant}
use Rattle.sshkey_krl.proofs.examples.authorities.Goals as goal

pub returns : goal.returns
unfolding count_leading_zeros significant
returns c = (refl, refl, refl, refl)
