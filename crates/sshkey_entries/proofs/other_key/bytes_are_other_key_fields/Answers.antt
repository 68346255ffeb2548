use Rattle.std.proofs.Common.{sym, ◌∙◌}
use Rattle.sshkey_entries.proofs.KeyFields.{other_name_text, other_word_text}
use Rattle.sshkey_entries.proofs.OtherKeys.{named_under, read_under}
use Rattle.sshkey_entries.specs.OtherKeys.{IsOtherName}
use Rattle.sshkey_entries.proofs.other_key.bytes_are_other_key_fields.Goals as goal

pub returns-in_default : goal.returns-in_default
returns-in_default c = (λ never. cc never, λ f. absurd (c.in_default.ensures f.name f.word f.rest f.fields (other_name_text f.name f.named) (other_word_text f.name f.word f.spelled)))

pub returns-then-is_other_name : goal.returns-then-is_other_name
returns-then-is_other_name c =
    let fields = c.in-Some.ensures.1 in (
      λ yes. read_under _ _ _ _ fields IsOtherName (c.is_other_name.ensures.0 c.if-is_other_name.true) (c.spells_name.ensures.0 yes),
      λ f. c.spells_name.ensures.1 (named_under _ _ _ _ fields IsOtherName f).1,
    )

pub returns-else-is_other_name : goal.returns-else-is_other_name
returns-else-is_other_name c = (
  λ yes. cc (sym c.if-is_other_name.false ∙ yes),
  λ f. c.is_other_name.ensures.1 (named_under _ _ _ _ c.in-Some.ensures.1 IsOtherName f).0,
)
