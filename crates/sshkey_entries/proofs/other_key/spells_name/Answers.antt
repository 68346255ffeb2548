use Rattle.std.proofs.Common.{sym, ◌∙◌}
use Rattle.sshkey_entries.proofs.OtherKeys.{no_groups, named_word, word_names}
use Rattle.sshkey_entries.proofs.other_key.spells_name.Goals as goal

pub returns-in_default : goal.returns-in_default
returns-in_default c = (λ no. cc no, λ s. absurd (no_groups c.args.name.now c.args.word.now c.in_default.ensures.refused.1 s))

pub returns-then-takes_name : goal.returns-then-takes_name
returns-then-takes_name c =
    let taken = c.takes_name.ensures.taken c.if-takes_name.true in (
      λ all. named_word c.args.name.now c.args.word.now _ c.in-Ok.ensures.word _ taken (c.is_read_to_end.ensures.sound.0 all) (c.is_read_to_end.ensures.bytes all),
      λ n. c.is_read_to_end.ensures.sound.1 (taken.missing ∙ (word_names c.args.name.now c.args.word.now _ c.in-Ok.ensures.word n).0),
    )

pub returns-else-takes_name : goal.returns-else-takes_name
returns-else-takes_name c = (
  λ other. cc (sym c.if-takes_name.false ∙ other),
  λ n. let begins = (word_names c.args.name.now c.args.word.now _ c.in-Ok.ensures.word n).1 in c.takes_name.ensures.begins begins.0 begins.1,
)
