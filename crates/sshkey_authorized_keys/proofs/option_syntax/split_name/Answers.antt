use Rattle.std.proofs.Common.{◌∙◌, ap, position}
use Rattle.sshkey_entries.proofs.Fronts.{cut_at, end_place, uncut}
use Rattle.sshkey_authorized_keys.proofs.OptionCuts.{cuts_name, end_ascii, ends_name}
use Rattle.sshkey_authorized_keys.proofs.option_syntax.split_name.Goals as goal

pub split_at-requires : goal.split_at-requires
split_at-requires c = end_place ends_name c.args.text.now c.in-Some.end end_ascii (c.in-Some.ensures ∙ ap (position ends_name) c.as_bytes.ensures.value)

pub returns-in-Some : goal.returns-in-Some
returns-in-Some c = cuts_name _ _ _ (cut_at ends_name c.args.text.now _ _ c.in-Some.end (c.in-Some.ensures ∙ ap (position ends_name) c.as_bytes.ensures.value) c.split_at.ensures.front c.split_at.ensures.back)

pub returns-in-None : goal.returns-in-None
returns-in-None c = cuts_name _ _ _ (uncut ends_name c.args.text.now (c.in-None.ensures ∙ ap (position ends_name) c.as_bytes.ensures.value))
