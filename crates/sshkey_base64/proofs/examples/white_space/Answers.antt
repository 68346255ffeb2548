use Rattle.std.proofs.Common.{[], inl, refl}
use Rattle.std.specs.Prelude.{codes}
use Rattle.base64.specs.Rfc4648.{encode_symbols}
use Rattle.sshkey_model.proofs.CombinedReaders.{bytes_fit}
use Rattle.sshkey_model.proofs.LineTests.{lacks}
use Rattle.sshkey_base64.specs.Armour.{dash}
use Rattle.sshkey_base64.proofs.examples.white_space.Goals as goal

pub returns : goal.returns
unfolding encode_symbols
returns c = (codes " Q\tQ\n\r\n= =\n", record { end = codes "\n"; after = []; is_end = inl refl; is = refl; no_dash = lacks dash (codes " Q\tQ\n\r\n= =\n") refl }, (bytes_fit (codes "A") refl, refl))
