use Rattle.std.proofs.Common.{[], inl, inr, refl}
use Rattle.std.specs.Prelude.{codes}
use Rattle.base64.specs.Rfc4648.{encode_symbols}
use Rattle.sshkey_model.proofs.CombinedReaders.{bytes_fit}
use Rattle.sshkey_model.proofs.LineTests.{lacks}
use Rattle.sshkey_base64.specs.Armour.{dash}
use Rattle.sshkey_base64.proofs.examples.lines.Goals as goal

pub returns : goal.returns
unfolding encode_symbols
returns c = (
  (codes "QQ==", record { end = codes "\n"; after = []; is_end = inl refl; is = refl; no_dash = lacks dash (codes "QQ==") refl }, (bytes_fit (codes "A") refl, refl)),
  (codes "QQ==\r", record { end = codes "\r\n"; after = codes "\r\n"; is_end = inr refl; is = refl; no_dash = lacks dash (codes "QQ==\r") refl }, (bytes_fit (codes "A") refl, refl)),
  (codes "QQ==", record { end = codes "\n"; after = codes "a text -"; is_end = inl refl; is = refl; no_dash = lacks dash (codes "QQ==") refl }, (bytes_fit (codes "A") refl, refl)),
  ([], record { end = codes "\n"; after = []; is_end = inl refl; is = refl; no_dash = lacks dash [] refl }, (bytes_fit [] refl, refl)),
)
