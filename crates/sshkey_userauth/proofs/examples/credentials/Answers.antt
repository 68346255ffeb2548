use Rattle.std.proofs.Common.{refl}
use Rattle.sshkey_model.specs.Reading.{after_at, box_at, bytes_at, list_within, literal_at, number_at, string_at}
use Rattle.sshkey_userauth.proofs.examples.credentials.Goals as goal

pub returns : goal.returns
unfolding after_at box_at bytes_at list_within literal_at number_at string_at
returns c = (refl, refl, refl, refl)
