use Rattle.std.proofs.Common.{sym, ◌∙◌}
use Rattle.std.proofs.lemmas.List.{take_rest}
use Rattle.sshkey_entries.proofs.Fronts.{left_from, nothing_left}
use Rattle.sshkey_entries.specs.Fields.{is_blank}
use Rattle.user_keys.proofs.text.skip_blanks.Goals as goal

pub returns-in-Some : goal.returns-in-Some
returns-in-Some c = take_rest c.args.text.now c.in-Some.start ∙ sym (left_from is_blank c.args.text.now c.in-Some.start c.in-Some.ensures)

pub returns-in-None : goal.returns-in-None
returns-in-None c = sym (nothing_left is_blank c.args.text.now c.in-None.ensures)
