use Rattle.std.proofs.Common.{◌∙◌, ap, not, position, sym}
use Rattle.sshkey_entries.specs.Items.{is_comma}
use Rattle.sshkey_entries.proofs.Fronts.{left_from, left_place, nothing_left}
use Rattle.sshkey_authorized_keys.proofs.OptionCuts.{comma_ascii}
use Rattle.sshkey_authorized_keys.proofs.option_syntax.skip_commas.Goals as goal

pub range_from-requires : goal.range_from-requires
range_from-requires c = λ _. left_place is_comma comma_ascii c.args.text.now c.in-Some.start c.utf8.text (c.in-Some.ensures ∙ ap (position (λ b. not (is_comma b))) c.as_bytes.ensures.value)

pub returns-in-Some : goal.returns-in-Some
returns-in-Some c = c.range_from.ensures.value ∙ sym (left_from is_comma c.args.text.now c.in-Some.start (c.in-Some.ensures ∙ ap (position (λ b. not (is_comma b))) c.as_bytes.ensures.value))

pub returns-in-None : goal.returns-in-None
returns-in-None c = sym (nothing_left is_comma c.args.text.now (c.in-None.ensures ∙ ap (position (λ b. not (is_comma b))) c.as_bytes.ensures.value))
