use Rattle.std.proofs.Common.{ap, position, ◌∙◌}
use Rattle.sshkey_entries.specs.Fields.{is_blank}
use Rattle.sshkey_entries.proofs.Fields.{blank_ascii, cuts_field}
use Rattle.sshkey_entries.proofs.Fronts.{cut_at, end_place, uncut}
use Rattle.sshkey_entries.proofs.blanks.split_blank.Goals as goal

pub split_at-requires : goal.split_at-requires
split_at-requires c = end_place is_blank c.args.text.now c.in-Some.end blank_ascii (c.in-Some.ensures ∙ ap (position is_blank) c.as_bytes.ensures.value)

pub returns-in-Some : goal.returns-in-Some
returns-in-Some c = cuts_field _ _ _ (cut_at is_blank c.args.text.now _ _ c.in-Some.end (c.in-Some.ensures ∙ ap (position is_blank) c.as_bytes.ensures.value) c.split_at.ensures.front c.split_at.ensures.back)

pub returns-in-None : goal.returns-in-None
returns-in-None c = cuts_field _ _ _ (uncut is_blank c.args.text.now (c.in-None.ensures ∙ ap (position is_blank) c.as_bytes.ensures.value))
