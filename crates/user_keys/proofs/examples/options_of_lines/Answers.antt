use Rattle.std.proofs.Common.{◌∷◌, codes, inl, refl}
use Rattle.std.proofs.lemmas.Str.{IsUtf8-from_is_utf8, is_utf8-from_IsUtf8}
use Rattle.std.specs.Char.{encode_utf8}
use Rattle.std.specs.Str.{chars, is_utf8}
use Rattle.sshkey_entries.specs.Fields.{without_front}
use Rattle.user_keys.specs.Principals.{after_last}
use Rattle.user_keys.proofs.ExampleLemmas.{never}
use Rattle.user_keys.proofs.examples.options_of_lines.Goals as goal

pub returns : goal.returns
unfolding after_last chars encode_utf8 is_utf8 without_front
returns c = (
  (IsUtf8-from_is_utf8 (codes "alice ") refl, inl (refl, refl)),
  (IsUtf8-from_is_utf8 (codes "alice ") refl, inl (refl, refl)),
  (λ is. never (is_utf8-from_IsUtf8 (0xff ∷ codes " alice") is)),
  (λ no. no (IsUtf8-from_is_utf8 (codes "alice ") refl)),
  (λ options is. never (is_utf8-from_IsUtf8 (0xff ∷ codes " alice") is.0)),
)
