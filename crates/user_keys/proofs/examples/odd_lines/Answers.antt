use Rattle.std.proofs.Common.{◌∷◌, [], refl}
use Rattle.std.proofs.lemmas.Str.{is_utf8-from_IsUtf8}
use Rattle.std.specs.Char.{encode_utf8}
use Rattle.std.specs.Str.{chars, is_utf8}
use Rattle.sshkey_entries.specs.Fields.{without_front}
use Rattle.user_keys.proofs.ExampleLemmas.{never}
use Rattle.user_keys.proofs.examples.odd_lines.Goals as goal

pub returns : goal.returns
unfolding chars encode_utf8 is_utf8 without_front
returns c = (
  refl,
  refl,
  (λ entry is. never (is_utf8-from_IsUtf8 (0xff ∷ []) is.utf8)),
  (λ text entry is. is.read),
  (λ is. is.no_comment refl),
  (λ line entry is odd. odd.no_entry entry is),
  (λ line none odd. none odd.spelled),
  (λ line utf8 none odd. none (odd.has_name utf8)),
  (λ line no_comment none spelled no_utf8. record { no_comment = no_comment; no_entry = none; spelled = spelled; has_name = λ utf8. absurd (no_utf8 utf8) }),
)
