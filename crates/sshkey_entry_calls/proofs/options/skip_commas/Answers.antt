use Rattle.std.proofs.Common.{◌∙◌, sym}
use Rattle.sshkey_entries.specs.Items.{is_comma}
use Rattle.sshkey_entries.proofs.Fronts.{left_from, nothing_left}
use Rattle.sshkey_calls.proofs.Places.{whole_slice}
use Rattle.sshkey_entry_calls.proofs.options.skip_commas.Goals as goal

pub returns-in-Some : goal.returns-in-Some
returns-in-Some c = whole_slice c.args.bytes.now c.in-Some.start ∙ sym (left_from is_comma c.args.bytes.now c.in-Some.start c.in-Some.ensures)

pub returns-in-None : goal.returns-in-None
returns-in-None c = sym (nothing_left is_comma c.args.bytes.now c.in-None.ensures)
