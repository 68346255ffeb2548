use Rattle.std.proofs.Common.{refl}
use Rattle.sshkey_model.specs.Keys.{key_at, key_data_at}
use Rattle.sshkey_model.specs.Labels.{label_at}
use Rattle.sshkey_model.specs.Names.{named}
use Rattle.sshkey_model.specs.Reading.{after_at, box_at, bytes_at, number_at, string_at}
use Rattle.sshkey_krl.proofs.examples.section_authorities.Goals as goal

pub returns : goal.returns
unfolding key_at key_data_at label_at named after_at box_at bytes_at number_at string_at
returns c = (refl, refl, refl)
