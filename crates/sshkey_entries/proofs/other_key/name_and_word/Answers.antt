use Rattle.std.proofs.Common.{sym, subst}
use Rattle.std.specs.Str.{IsUtf8}
use Rattle.sshkey_entries.proofs.KeyFields.{same_word}
use Rattle.sshkey_entries.proofs.other_key.name_and_word.Goals as goal

pub returns-in_default : goal.returns-in_default
returns-in_default c = λ name word rest fields text _. c.in_default.ensures (subst IsUtf8 (sym (same_word _ _ _ _ _ _ c.split_blank.ensures c.skip_blanks.ensures c.split_word.ensures name word rest fields).0) text)

pub returns-in_default-text_of : goal.returns-in_default-text_of
returns-in_default-text_of c = λ name word rest fields _ text. c.in_default-text_of.ensures (subst IsUtf8 (sym (same_word _ _ _ _ _ _ c.split_blank.ensures c.skip_blanks.ensures c.split_word.ensures name word rest fields).1) text)
