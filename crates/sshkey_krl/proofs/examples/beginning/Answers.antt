use Rattle.std.proofs.Common.{refl}
use Rattle.std.specs.Int.Count.{count_leading_zeros}
use Rattle.sshkey_model.specs.Parts.{flat}
use Rattle.sshkey_model.specs.Reading.{after_at, box_at, bytes_at, list_within, literal_at, number_at, string_at}
use Rattle.sshkey_krl.specs.Revocation.{significant}
use Rattle.sshkey_krl.proofs.examples.beginning.Goals as goal

pub returns : goal.returns
unfolding after_at box_at bytes_at count_leading_zeros flat list_within literal_at number_at significant string_at
returns c = (refl, refl, refl)
