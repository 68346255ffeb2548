use Rattle.sshkey_entries.specs.Fields.{is_blank}
use Rattle.sshkey_entries.proofs.Fields.{cuts_field}
use Rattle.sshkey_entries.proofs.Fronts.{cut_at, uncut}
use Rattle.sshkey_entries.proofs.bytes.split_blank.Goals as goal

pub returns-in-Some : goal.returns-in-Some
returns-in-Some c = cuts_field _ _ _ (cut_at is_blank c.args.text.now _ _ c.in-Some.end c.in-Some.ensures c.split_at.ensures.front c.split_at.ensures.back)

pub returns-in-None : goal.returns-in-None
returns-in-None c = cuts_field _ _ _ (uncut is_blank c.args.text.now c.in-None.ensures)
